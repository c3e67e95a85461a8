-- Stores in memory: what they are when they are made, and what they show.
use Rattle.std.specs.Prelude.{ℕ, ◌≡◌, List, [], String, Vec, false}
use Rattle.std.specs.declared.alloc.Global.{Global}
use Rattle.desk.specs.declared.mem_shelf.MemShelf.{MemShelf}
use Rattle.desk.specs.declared.mem_sink.MemSink.{MemSink}
use Rattle.desk.specs.declared.step_sink.StepSink.{StepSink}
use Rattle.desk.specs.declared.sure_shelf.SureShelf.{SureShelf}
use Rattle.desk.specs.declared.sure_sink.SureSink.{SureSink}

-- it holds these files, will fail at these calls, and has counted nothing yet
pub record IsFreshShelf (files : Vec (String Global × Vec ℕ Global) Global) (fails : Vec ℕ Global) (shelf : MemShelf) : Type 0 where
  pub holds : shelf.files ≡ files
  pub will_fail : shelf.fails ≡ fails
  pub no_call : shelf.calls ≡ 0
  pub no_fault : shelf.faults ≡ 0
  pub no_byte : shelf.taken ≡ 0

-- it has these limits, will fail at these puts, and has taken and counted nothing yet
pub record IsFreshSink (most at_once : ℕ) (fails : Vec ℕ Global) (sink : MemSink) : Type 0 where
  pub empty : sink.room.bytes.items ≡ []
  pub room : sink.room.most ≡ most
  pub limit : sink.at_once ≡ at_once
  pub will_fail : sink.fails ≡ fails
  pub no_call : sink.calls ≡ 0
  pub no_fault : sink.faults ≡ 0

-- the bytes that a sink in memory took
abbrev pub bytes_taken : MemSink → List ℕ
bytes_taken sink = sink.room.bytes.items

-- it has this room and these limits, the first one for its next put, and has taken and counted nothing yet
pub record IsFreshStepSink (most : ℕ) (takes : Vec ℕ Global) (sink : StepSink) : Type 0 where
  pub empty : sink.room.bytes.items ≡ []
  pub room : sink.room.most ≡ most
  pub limits : sink.takes ≡ takes
  pub first : sink.turn ≡ 0
  pub no_fault : sink.faults ≡ 0

-- the bytes that it took
abbrev pub steps_taken : StepSink → List ℕ
steps_taken sink = sink.room.bytes.items

-- it holds these files, and has counted nothing yet
pub record IsFreshSureShelf (files : Vec (String Global × Vec ℕ Global) Global) (shelf : SureShelf) : Type 0 where
  pub holds : shelf.files ≡ files
  pub no_byte : shelf.taken ≡ 0

-- it has this room, and has taken nothing yet
pub record IsFreshSureSink (most : ℕ) (sink : SureSink) : Type 0 where
  pub empty : sink.room.bytes.items ≡ []
  pub room : sink.room.most ≡ most
  pub not_full : sink.is_full ≡ false

-- the bytes that it keeps
abbrev pub bytes_kept : SureSink → List ℕ
bytes_kept sink = sink.room.bytes.items

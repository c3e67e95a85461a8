use Rattle.std.proofs.Common.{inl, inr}
use Rattle.report_run.proofs.reading.read_job_file.Goals as goal

pub returns : goal.returns
returns g c = record {
  read = tt;
  stop = elim c.in-Err.ensures.fault [
    | inl memory ↦ absurd (c.in_default.not-Memory memory)
    | inr fault ↦ (c.in_ok-bytes.bytes.items, c.in_ok-bytes.ensures.bytes, rw c.deref.ensures.value at fault, c.in_default.not-Memory)
  ];
  same = c.fetched.ensures.same;
  faults_later = c.fetched.ensures.faults_later;
  taken_later = c.fetched.ensures.taken_later;
}

-- Each kind of word is read from its text, whatever words follow.
use Rattle.std.proofs.Common.{◌≡◌, ℕ, true, cond, List, [], ◌∷◌, ◌++◌, codes, decimal, ℤ, Option, Some, None, refl, ap, ◌∙◌, arith}
use Rattle.std.specs.Fmt.{signed_decimal}
use Rattle.std.specs.Str.{bytes_eq}
use Rattle.std.specs.Option.{unwrap_or}
use Rattle.std.proofs.lemmas.List.{append-nil}
use Rattle.std.proofs.Math.Facts.{sfits_widen}
use Rattle.outward_interval.specs.declared.figure.Figure.{Figure}
use Rattle.hull_report.specs.declared.names.Command.{Command}
use Rattle.hull_report.specs.declared.names.Command.TheVariants as command
use Rattle.hull_report.specs.declared.names.Finding.{Finding}
use Rattle.hull_report.specs.declared.names.Finding.TheVariants as finding
use Rattle.hull_report.specs.declared.names.SideLine.{SideLine}
use Rattle.hull_report.specs.declared.names.SideLine.TheVariants as side
use Rattle.hull_report.specs.Spelling.{Word, Name, U32, U64, I64, I128, Version, Criterion, Interval, Missing, word_text, IsWord, AreWords, figure, figure_or_absent, command_name, finding_name, side_name, spaced, joined}
use Rattle.hull_report.specs.Reading as reading
use Rattle.hull_report.specs.Reading.{◌>>=◌, cut, word_at, next_at}
use Rattle.hull_report.proofs.Ranges.{Above, above, above_lacks, graphic, decimal_digits, signed_bytes, figure_above, abs_small}
use Rattle.hull_report.proofs.Cuts.{cut_at, cut_none}
use Rattle.hull_report.proofs.Numbers.{unsigned_decimal, signed_decimal_is, figure_is, within_is, half_is, version_is, criterion_is}

-- no byte of a word is a space or below
pub word_above : (w : Word) → IsWord w → Above (word_text w)
unfolding word_text
word_above (Name name) h = graphic name h
word_above (U32 n) h = above 48 58 (decimal n) (omega arith) (decimal_digits n (omega (arith, h)))
word_above (U64 n) h = above 48 58 (decimal n) (omega arith) (decimal_digits n (omega (arith, h)))
word_above (I64 z) h = above 45 58 (signed_decimal z) (omega arith) (signed_bytes z (abs_small z (sfits_widen tt h)))
word_above (I128 z) h = above 45 58 (signed_decimal z) (omega arith) (signed_bytes z (abs_small z h))
word_above (Version n) h = above 48 58 (decimal n) (omega arith) (decimal_digits n (omega (arith, h.1)))
word_above (Criterion n) h = (omega arith, above 48 58 (decimal n) (omega arith) (decimal_digits n (omega (arith, h.1))))
word_above (Interval places f) h = figure_above places f.lo f.hi h.0 h.1
word_above Missing h = absurd h

-- the first of several words, and the rest
pub word_first : (w : Word) (words : List Word) → IsWord w → word_at (joined (w ∷ words)) ≡ (word_text w, joined words)
unfolding word_at joined spaced
word_first w [] h =
    let one : word_text w ++ [] ≡ word_text w = append-nil (word_text w) in
    ap (λ t. unwrap_or (cut 32 t) (t, [])) one ∙ ap (λ parts. unwrap_or parts (word_text w, [])) (cut_none 32 (word_text w) (above_lacks 32 (word_text w) (omega arith) (word_above w h)))
word_first w (next ∷ words) h =
    ap (λ parts. unwrap_or parts (joined (w ∷ next ∷ words), [])) (cut_at 32 (word_text w) (joined (next ∷ words)) (above_lacks 32 (word_text w) (omega arith) (word_above w h)))

-- a reader gives what the first word says, and leaves the rest
pub record Again {A : Type 0} (read : List ℕ → Option (A × List ℕ)) (w : Word) (x : A) : Type 0 where
  pub gives : (words : List Word) → IsWord w → read (joined (w ∷ words)) ≡ Some (x, joined words)

next_again : {A : Type 0} (read : List ℕ → Option A) (w : Word) (x : A) → (IsWord w → read (word_text w) ≡ Some x) → Again (next_at read) w x
next_again read w x says = record {
  gives = λ words h.
      ap (λ (p : List ℕ × List ℕ). read p.0 >>= λ y. Some (y, p.1)) (word_first w words h) ∙ ap (λ y. y >>= λ y. Some (y, joined words)) (says h);
}

pub u32_again : (n : ℕ) → Again reading.u32_at (U32 n) n
unfolding reading.u32_at word_text
u32_again n = next_again (λ word. reading.unsigned word >>= reading.within 32) (U32 n) n (λ h. ap (λ n. n >>= reading.within 32) (unsigned_decimal n (omega (arith, h))) ∙ within_is 32 n h)

pub u64_again : (n : ℕ) → Again reading.u64_at (U64 n) n
unfolding reading.u64_at word_text
u64_again n = next_again (λ word. reading.unsigned word >>= reading.within 64) (U64 n) n (λ h. ap (λ n. n >>= reading.within 64) (unsigned_decimal n (omega (arith, h))) ∙ within_is 64 n h)

pub i64_again : (z : ℤ) → Again reading.i64_at (I64 z) z
unfolding reading.i64_at word_text
i64_again z = next_again (λ word. reading.signed word >>= reading.half) (I64 z) z (λ h. ap (λ n. n >>= reading.half) (signed_decimal_is z (sfits_widen tt h)) ∙ half_is z h)

pub i128_again : (z : ℤ) → Again reading.i128_at (I128 z) z
unfolding reading.i128_at word_text
i128_again z = next_again reading.signed (I128 z) z (λ h. signed_decimal_is z h)

pub interval_again : (places : ℕ) (f : Figure) → Again reading.figure_at (Interval places f) f
unfolding reading.figure_at word_text
interval_again places f = next_again reading.figure (Interval places f) f (λ h. figure_is places f h.0 h.1)

pub figure_again : (f : Figure) → Again reading.figure_at (figure f) f
figure_again f = interval_again 6 f

pub version_again : (n : ℕ) → Again reading.version_at (Version n) n
unfolding reading.version_at word_text
version_again n = next_again reading.version (Version n) n (λ h. version_is n h.0 h.1)

pub criterion_again : (n : ℕ) → Again reading.criterion_at (Criterion n) n
unfolding reading.criterion_at word_text
criterion_again n = next_again reading.criterion (Criterion n) n (λ h. criterion_is n h.0 h.1)

command_is : (c : Command) → reading.command (command_name c) ≡ Some c
unfolding reading.command
command_is command.Hydro = refl
command_is command.Bonjean = refl
command_is command.Cross = refl
command_is command.Stability = refl
command_is command.Damage = refl
command_is command.Floodable = refl
command_is command.All = refl
command_is command.Section = refl
command_is command.Make = refl
command_is command.Tanks = refl
command_is command.Strength = refl
command_is command.Flooded = refl

pub command_again : (c : Command) → Again reading.command_at (Name (command_name c)) c
unfolding reading.command_at word_text
command_again c = next_again reading.command (Name (command_name c)) c (λ h. command_is c)

finding_is : (f : Finding) → reading.finding (finding_name f) ≡ Some f
unfolding reading.finding
finding_is finding.Holds = refl
finding_is finding.Fails = refl
finding_is finding.Unsure = refl

pub finding_again : (f : Finding) → Again reading.finding_at (Name (finding_name f)) f
unfolding reading.finding_at word_text
finding_again f = next_again reading.finding (Name (finding_name f)) f (λ h. finding_is f)

side_is : (s : SideLine) → reading.side (side_name s) ≡ Some s
unfolding reading.side
side_is side.Port = refl
side_is side.Starboard = refl

pub side_again : (s : SideLine) → Again (next_at reading.side) (Name (side_name s)) s
unfolding word_text
side_again s = next_again reading.side (Name (side_name s)) s (λ h. side_is s)

-- one word after the other
pub step : {A B : Type 0} (read : List ℕ → Option (A × List ℕ)) (w : Word) (x : A) (words : List Word) (rest : A × List ℕ → Option B) (y : Option B) →
    Again read w x → AreWords (w ∷ words) → (AreWords words → rest (x, joined words) ≡ y) → (read (joined (w ∷ words)) >>= rest) ≡ y
step read w x words rest y again h more = ap (λ o. o >>= rest) (again.gives words h.0) ∙ more h.1

-- what is read behind a name
pub behind_name : {A : Type 0} (read : List ℕ → List ℕ → Option A) (w : Word) (words : List Word) (y : Option A) →
    AreWords (w ∷ words) → (AreWords words → read (word_text w) (joined words) ≡ y) → read (word_at (joined (w ∷ words))).0 (word_at (joined (w ∷ words))).1 ≡ y
behind_name read w words y h more = ap (λ (p : List ℕ × List ℕ). read p.0 p.1) (word_first w words h.0) ∙ more h.1

-- a word that says nothing to a reader
pub no_word : {A : Type 0} (read : List ℕ → Option A) (w : Word) (words : List Word) → IsWord w → read (word_text w) ≡ None → next_at read (joined (w ∷ words)) ≡ None
no_word read w words h none = ap (λ (p : List ℕ × List ℕ). read p.0 >>= λ y. Some (y, p.1)) (word_first w words h) ∙ ap (λ y. y >>= λ y. Some (y, joined words)) none

pub dash_no_number : reading.unsigned (codes "-") ≡ None
unfolding reading.unsigned cut reading.digits_after
dash_no_number = refl

-- a dash in the place of a number
pub dash_no_u32 : (words : List Word) → reading.u32_at (joined (Name (codes "-") ∷ words)) ≡ None
unfolding reading.u32_at word_text
dash_no_u32 words = no_word (λ word. reading.unsigned word >>= reading.within 32) (Name (codes "-")) words refl (ap (λ n. n >>= reading.within 32) dash_no_number)

-- a figure that may be absent
pub absent_again : (f : Option Figure) → Again reading.absent_at (figure_or_absent true f) f
unfolding reading.absent_at word_text
absent_again (Some f) = record {
  gives = λ words h.
      ap (λ (p : List ℕ × List ℕ). cond (bytes_eq p.0 (codes "-")) (Some (None, p.1)) (reading.figure_at (joined (figure f ∷ words)) >>= λ f. Some (Some f.0, f.1))) (word_first (figure f) words h)
      ∙ ap (λ o. o >>= λ f. Some (Some f.0, f.1)) ((figure_again f).gives words h);
}
absent_again None = record {
  gives = λ words h.
      ap (λ (p : List ℕ × List ℕ). cond (bytes_eq p.0 (codes "-")) (Some (None, p.1)) (reading.figure_at (joined (Name (codes "-") ∷ words)) >>= λ f. Some (Some f.0, f.1))) (word_first (Name (codes "-")) words h);
}

-- GZ and the area below it
pub lever_again : (gz area : Figure) (words : List Word) → AreWords (figure gz ∷ figure area ∷ words) → reading.lever_at (joined (figure gz ∷ figure area ∷ words)) ≡ Some (record { gz = gz; area = area }, joined words)
unfolding reading.lever_at
lever_again gz area words h = step _ _ _ _ _ _ (figure_again gz) h (λ h. step _ _ _ _ _ _ (figure_again area) h (λ h. refl))

-- behind the last word no figure stands
pub no_figure : reading.figure_at (joined []) ≡ None
unfolding reading.figure_at reading.figure word_at joined cut
no_figure = refl

pub no_lever : reading.lever_at (joined []) ≡ None
unfolding reading.lever_at
no_lever = ap (λ o. o >>= λ gz. reading.figure_at gz.1 >>= λ area. Some (record { gz = gz.0; area = area.0 }, area.1)) no_figure

-- What a search answers: a sharp box, or why there is none.
use Rattle.std.specs.Prelude.{ℕ, ◌<◌, List}
use Rattle.damage_box.specs.declared.reading.Corner.{Corner}
use Rattle.damage_box.specs.declared.settling.SettleFault.{SettleFault}
use Rattle.damage_box.specs.declared.settling.SettleFault.TheVariants.{Sinks, NoStart}
use Rattle.damage_box.specs.declared.tip.Tip.{Tip}
use Rattle.damage_box.specs.declared.tip.Tip.TheVariants.{Fore, Aft}
use Rattle.damage_box.specs.declared.draft_box.DraftBox.{DraftBox}
use Rattle.damage_box.specs.Balance.{Balance, mirrored, IsSharpBox}
use Rattle.damage_box.specs.Candidates.{half_of, IsAt}
use Rattle.damage_box.specs.Reading.{IsSinking, IsAfloat, HasStart, IsTried, Qualifies, AreTried}

-- a sharp box of what floats, for which a candidate of each corner qualified
pub record IsSettled (b : Balance) (d : DraftBox) : Type 0 where
  pub sharp : IsSharpBox b d.a1 d.a2 d.f1 d.f2
  pub afloat : IsAfloat b
  pub fore : HasStart b
  pub aft : HasStart (mirrored b)

-- a corner as it is seen from the other end
abbrev pub turned : Corner → Corner
turned c = record { a = c.f; f = c.a; r1 = c.r2; r2 = c.r1 }

-- the candidates of the aft tip, which are tried from the other end
pub record AreTriedAft (b : Balance) (tried : List Corner) : Type 0 where
  pub all : (k : ℕ) → k < 16 → (c : Corner) → IsAt tried k c → IsTried (mirrored b) (half_of k) (turned c)
  pub none : (k : ℕ) → k < 16 → (c : Corner) → IsAt tried k c → ¬ Qualifies (turned c)

abbrev pub IsNoStart : Balance → Tip → List Corner → Type 0
IsNoStart b Fore tried = IsAfloat b × AreTried b tried 16
IsNoStart b Aft tried = IsAfloat b × HasStart b × AreTriedAft b tried

abbrev pub IsFault : Balance → SettleFault → Type 0
IsFault b (Sinks left) = IsSinking b left.lo left.hi
IsFault b (NoStart tip tried) = IsNoStart b tip tried

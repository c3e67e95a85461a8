-- The sums over the columns of parts: for every list of triangles that the parts hold.
use Rattle.std.proofs.Common.{◌≡◌, pos, ◌+◌, ◌≤◌, take, sym, subst, ℕ, ◌*◌, ◌^◌, ◌<◌, ℤ, List, length, get_or, arith}
use Rattle.exact_algebra.proofs.Fraction.{Fraction, nought, one, ◌⊕◌, ◌≼◌}
use Rattle.exact_algebra.proofs.Whole.{whole}
use Rattle.hull_model.specs.TriangleCut.{triangle}
use Rattle.hull_model.specs.Waterplane.{Waterplane, Position, side_distance}
use Rattle.hull_polyhedron.specs.Columns.{middle}
use Rattle.outward_interval.specs.declared.span.Span.{Span}
use Rattle.plane_clip.specs.declared.part.Part.{Part}
use Rattle.plane_clip.specs.Parts.{HoldsShare}
use Rattle.flux_moments.specs.declared.plane_box.PlaneBox.{PlaneBox}
use Rattle.flux_moments.specs.declared.wet.Wet.{Wet}
use Rattle.flux_moments.specs.PartSizes.{part_area, ArePartWidths, ArePartSumWidths, ArePartsReached}
use Rattle.flux_moments.specs.Planes.{IsIn}
use Rattle.flux_moments.specs.Sizes.{BoxSize, HasSize, spread}
use Rattle.flux_moments.specs.Wets.{AllFields, IsSum}
use Rattle.plane_clip.specs.Extents.{IsPartExtent}
use Rattle.flux_moments.specs.Shared.{Shared, HoldShares, shared_column}
use Rattle.plane_clip.proofs.EachLists.{each_at, each-length}
use Rattle.flux_moments.proofs.ColumnSums.{Lists, IsSumOf, all_at, narrow-start, narrow-step, narrow-end}

nowhere : Position
nowhere = record { x = nought; y = nought; z = nought }

pub no_triangle : Shared
no_triangle = record { share = nought; at = triangle nowhere nowhere nowhere }

-- a plane, and triangles with their shares
pub record Held : Type 0 where
  pub plane : Waterplane
  pub triangles : List Shared

module _ (planes : PlaneBox) (first last : ℤ) (parts : List Part) where
  -- the plane is in the box, and the parts hold the triangles
  pub record IsHeld (h : Held) : Type 0 where
    pub plane : IsIn planes h.plane
    pub triangles : HoldShares parts h.triangles

  abbrev pub held_triangles : Lists IsHeld Shared
  held_triangles = record { at = λ h. h.triangles; count = length parts; long = λ h is. each-length (λ p t. HoldsShare p t.share t.at) parts h.triangles is.triangles }

  -- the triangle that the part at a place holds
  pub held-at : (h : Held) → IsHeld h → (i : ℕ) (p : Part) → p ≡ get_or parts i p → i < length parts
      → HoldsShare p (get_or h.triangles i no_triangle).share (get_or h.triangles i no_triangle).at
  held-at h is i p e few = subst (λ (q : Part). HoldsShare q (get_or h.triangles i no_triangle).share (get_or h.triangles i no_triangle).at) (sym e)
      (each_at (λ p t. HoldsShare p t.share t.at) parts h.triangles i p no_triangle
      (omega (arith, few, each-length (λ p t. HoldsShare p t.share t.at) parts h.triangles is.triangles)) is.triangles)

  abbrev pub IsPartSum : (Waterplane → Shared → Fraction) → (times most count : ℕ) → Span 20 → Type 0
  IsPartSum f times most count s = IsSumOf IsHeld (λ h. f h.plane) times most held_triangles count s

  pub record ArePartSums (count : ℕ) (sums : Wet) : Type 0 where
    pub volume : IsPartSum (λ plane. shared_column plane first last (λ p. one)) 2 (7 * 2 ^ 75) count sums.volume
    pub mx : IsPartSum (λ plane. shared_column plane first last (λ p. p.x)) 2 (5 * 2 ^ 97) count sums.mx
    pub mv : IsPartSum (λ plane. shared_column plane first last (side_distance plane)) 2 (5 * 2 ^ 95) count sums.mv
    pub mu : IsPartSum (λ plane. shared_column plane first last (middle plane first last)) 4 (41 * 2 ^ 95) count sums.mu
    pub widths : (b : BoxSize) (h : Fraction) (y z : ℕ) → ArePartsReached planes parts b h y z → ArePartSumWidths (whole last) h (spread b h) (take count parts) sums

  pub widths-start : (s : Wet) → AllFields (λ s. (s.lo ≡ pos 0) × (s.hi ≡ pos 0)) s → (b : BoxSize) (h : Fraction) (y z : ℕ) → ArePartsReached planes parts b h y z
      → ArePartSumWidths (whole last) h (spread b h) (take 0 parts) s
  widths-start s e b h y z are = record { volume = narrow-start _ parts s.volume e.0; mx = narrow-start _ parts s.mx e.1; mv = narrow-start _ parts s.mv e.2; mu = narrow-start _ parts s.mu e.3 }

  -- one part more
  pub widths-more : (count : ℕ) (p : Part) (sums columns result : Wet) → count < length parts → p ≡ get_or parts count p
      → ((b : BoxSize) (h : Fraction) (y z : ℕ) → ArePartsReached planes parts b h y z → ArePartSumWidths (whole last) h (spread b h) (take count parts) sums)
      → ((b : BoxSize) (h : Fraction) (y z : ℕ) → HasSize planes b → one ≼ h → b.level ⊕ whole (pos (z + y)) ≼ h → IsPartExtent y z 3 p
      → ArePartWidths (whole last) h (spread b h) (part_area p) columns)
      → IsSum sums columns result → (b : BoxSize) (h : Fraction) (y z : ℕ) → ArePartsReached planes parts b h y z
      → ArePartSumWidths (whole last) h (spread b h) (take (count + 1) parts) result
  widths-more count p sums columns result few e before one sum b h y z are =
      let earlier = before b h y z are in
      let extent = subst (IsPartExtent y z 3) (sym e) (all_at (IsPartExtent y z 3) parts count p few are.extents) in
      let more = subst (λ (q : Part). ArePartWidths (whole last) h (spread b h) (part_area q) columns) e (one b h y z are.size are.some are.reached extent) in
      record {
        volume = narrow-step _ parts count p sums.volume columns.volume result.volume few earlier.volume more.volume sum.volume;
        mx = narrow-step _ parts count p sums.mx columns.mx result.mx few earlier.mx more.mx sum.mx;
        mv = narrow-step _ parts count p sums.mv columns.mv result.mv few earlier.mv more.mv sum.mv;
        mu = narrow-step _ parts count p sums.mu columns.mu result.mu few earlier.mu more.mu sum.mu;
      }

  pub widths-end : (count : ℕ) (sums : Wet) → length parts ≤ count
      → ((b : BoxSize) (h : Fraction) (y z : ℕ) → ArePartsReached planes parts b h y z → ArePartSumWidths (whole last) h (spread b h) (take count parts) sums)
      → (b : BoxSize) (h : Fraction) (y z : ℕ) → ArePartsReached planes parts b h y z → ArePartSumWidths (whole last) h (spread b h) parts sums
  widths-end count sums few all b h y z are = let widths = all b h y z are in record {
    volume = narrow-end _ parts count sums.volume few widths.volume;
    mx = narrow-end _ parts count sums.mx few widths.mx;
    mv = narrow-end _ parts count sums.mv few widths.mv;
    mu = narrow-end _ parts count sums.mu few widths.mu;
  }

-- the same number between the same ends under other names
pub renamed_ends : (Q : ℤ → ℤ → Fraction) {first last first' last' : ℤ} → first ≡ first' → last ≡ last' → Q first last ≡ Q first' last'
renamed_ends Q {first} {last} {first'} {last'} e f i = Q (e i) (f i)

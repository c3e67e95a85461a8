-- One item more.
use Rattle.std.proofs.Common.{◌≡◌, sym, subst, ℕ, suc, ◌+◌, ◌-◌, ◌*◌, ◌^◌, ◌<◌, ◌≤◌, ℤ, pos, ◌+ℤ◌, ◌*ℤ◌, ◌≤ℤ◌, unsigned_abs, List, [], ◌∷◌, length, get_or, take, drop, arith}
use Rattle.std.proofs.lemmas.Int.{ints}
use Rattle.std.proofs.lemmas.List.{take_rest}
use Rattle.job_reader.specs.declared.job.Item.{Item}
use Rattle.loading_sheet.specs.Sums.{total_mass, total_free, moment_about, AreWithin}
use Rattle.loading_sheet.proofs.ItemParts.{ItemParts, item-parts, product_from, product_near}

between : (mass m most : ℕ) (s p : ℤ) → (pos 0 ≤ℤ s) × (s ≤ℤ pos (most * mass)) → (pos 0 ≤ℤ p) × (p ≤ℤ pos (most * m)) → (pos 0 ≤ℤ (s +ℤ p)) × ((s +ℤ p) ≤ℤ pos (most * (mass + m)))
between mass m most s p h k = (omega (arith, ints, h.0, k.0), omega (arith, ints, h.1, k.1))

near : (mass m most : ℕ) (s p : ℤ) → unsigned_abs s ≤ most * mass → unsigned_abs p ≤ most * m → unsigned_abs (s +ℤ p) ≤ most * (mass + m)
near mass m most s p h k = omega (arith, ints, h, k)

pub within-step : (mass free : ℕ) (along across height : ℤ) (m f : ℕ) (x y z : ℤ) → AreWithin mass along across height free → ItemParts m x y z f → mass + m ≤ 2 ^ 44 → free + f ≤ 2 ^ 44
    → AreWithin (mass + m) (along +ℤ (pos m *ℤ x)) (across +ℤ (pos m *ℤ y)) (height +ℤ (pos m *ℤ z)) (free + f)
within-step mass free along across height m f x y z before item few small =
    let fore = between mass m 524287 along (pos m *ℤ x) (before.aft, before.fore) (product_from m 524287 x item.aft item.fore) in
    let up = between mass m 131071 height (pos m *ℤ z) (before.low, before.high) (product_from m 131071 z item.low item.high) in
    record {
      most = few;
      aft = fore.0;
      fore = fore.1;
      aside = near mass m 65535 across (pos m *ℤ y) before.aside (product_near m 65535 y item.aside);
      low = up.0;
      high = up.1;
      surfaces = small;
    }

-- what stays below 2^63 in magnitude
pub small-within : (mass free : ℕ) (along across height : ℤ) → AreWithin mass along across height free → (unsigned_abs along < 2 ^ 63) × (unsigned_abs across < 2 ^ 63) × (unsigned_abs height < 2 ^ 63)
small-within mass free along across height w = (omega (arith, ints, w.most, w.aft, w.fore), omega (arith, w.most, w.aside), omega (arith, ints, w.most, w.low, w.high))

-- what is left of the items, and the sums so far
pub record Left (items rest : List Item) (mass : ℕ) (along across height : ℤ) (free : ℕ) : Type 0 where
  pub masses : total_mass items ≡ mass + total_mass rest
  pub lengths : moment_about (λ i. i.x) items ≡ along +ℤ moment_about (λ i. i.x) rest
  pub breadths : moment_about (λ i. i.y) items ≡ across +ℤ moment_about (λ i. i.y) rest
  pub heights : moment_about (λ i. i.z) items ≡ height +ℤ moment_about (λ i. i.z) rest
  pub surfaces : total_free items ≡ free + total_free rest
  pub few : mass + 2 ^ 36 * length rest ≤ 2 ^ 44
  pub small : free + 2 ^ 36 * length rest ≤ 2 ^ 44
  pub within : AreWithin mass along across height free

moved : (total s p w : ℤ) → total ≡ s +ℤ (p +ℤ w) → total ≡ (s +ℤ p) +ℤ w
moved total s p w e = omega (arith, ints, e)

moved_natural : (total s m w : ℕ) → total ≡ s + (m + w) → total ≡ (s + m) + w
moved_natural total s m w e = omega (arith, e)

fewer : (s m n : ℕ) → m ≤ 2 ^ 36 → s + 2 ^ 36 * suc n ≤ 2 ^ 44 → (s + m) + 2 ^ 36 * n ≤ 2 ^ 44
fewer s m n h k = omega (arith, h, k)

within_limit : (s m n : ℕ) → m ≤ 2 ^ 36 → s + 2 ^ 36 * suc n ≤ 2 ^ 44 → s + m ≤ 2 ^ 44
within_limit s m n h k = omega (arith, h, k)

pub item_step : (items rest : List Item) (other item : Item) (mass : ℕ) (along across height : ℤ) (free : ℕ) (p q r : ℤ) → 1 ≤ length rest → item ≡ get_or rest 0 other
    → p ≡ pos item.mass *ℤ item.x → q ≡ pos item.mass *ℤ item.y → r ≡ pos item.mass *ℤ item.z
    → Left items rest mass along across height free
    → Left items (take (length rest - 1) (drop 1 rest)) (mass + item.mass) (along +ℤ p) (across +ℤ q) (height +ℤ r) (free + item.free_surface)
item_step items rest other item mass along across height free p q r some is e f g left =
    subst (λ (is : List Item). Left items is (mass + item.mass) (along +ℤ p) (across +ℤ q) (height +ℤ r) (free + item.free_surface)) (sym (take_rest rest 1)) (rw (e, f, g, is) (go rest some left))
  where
    go : (rest : List Item) → 1 ≤ length rest → Left items rest mass along across height free
        → Left items (drop 1 rest) (mass + (get_or rest 0 other).mass) (along +ℤ (pos (get_or rest 0 other).mass *ℤ (get_or rest 0 other).x)) (across +ℤ (pos (get_or rest 0 other).mass *ℤ (get_or rest 0 other).y))
        (height +ℤ (pos (get_or rest 0 other).mass *ℤ (get_or rest 0 other).z)) (free + (get_or rest 0 other).free_surface)
    go [] some left = absurd (omega arith)
    go (i ∷ rest) some left =
        let item : ItemParts i.mass i.x i.y i.z i.free_surface = item-parts i.mass i.x i.y i.z i.free_surface i.limits in
        record {
          masses = moved_natural (total_mass items) mass i.mass (total_mass rest) left.masses;
          lengths = moved _ along (pos i.mass *ℤ i.x) (moment_about (λ i. i.x) rest) left.lengths;
          breadths = moved _ across (pos i.mass *ℤ i.y) (moment_about (λ i. i.y) rest) left.breadths;
          heights = moved _ height (pos i.mass *ℤ i.z) (moment_about (λ i. i.z) rest) left.heights;
          surfaces = moved_natural (total_free items) free i.free_surface (total_free rest) left.surfaces;
          few = fewer mass i.mass (length rest) item.most left.few;
          small = fewer free i.free_surface (length rest) item.surfaces left.small;
          within = within-step mass free along across height i.mass i.free_surface i.x i.y i.z left.within item (within_limit mass i.mass (length rest) item.most left.few) (within_limit free i.free_surface (length rest) item.surfaces left.small);
        }

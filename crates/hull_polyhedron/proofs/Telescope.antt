-- The walls along the edges of strip triangles cancel, but for those at the bottom, at the top and along the two chains.
use Rattle.std.proofs.Common.{suc, zero, ◌≡◌, refl, sym, ◌∙◌, ap, ap₂, List, [], ◌∷◌, Bool, true, false, ℤ, pos, negsuc, ◌+ℤ◌, ◌-ℤ◌, ◌*ℤ◌, ◌<ℤ◌, neg_ℤ, arith}
use Rattle.std.proofs.lemmas.Int.{ints}
use Rattle.std.specs.Prelude.{int_lt, int_le, if◌then◌else◌}
use Rattle.exact_algebra.specs.Expression.{var, number, ◌:+◌, ◌:-◌, ◌:*◌, opposite}
use Rattle.exact_algebra.proofs.Ring.{ring, ring_from, none, given}
use Rattle.exact_algebra.proofs.WholeNumbers.{integers}
use Rattle.hull_model.specs.declared.node.Node.{Node}
use Rattle.hull_model.specs.TriangleCut.{Triangle, triangle}
use Rattle.hull_model.specs.Zipper.{zipper, fore_triangles, advance}
use Rattle.hull_model.specs.SignedFaces.{turn, turns_back}
use Rattle.hull_model.specs.Boundary.{sum_of}
use Rattle.hull_polyhedron.specs.Listed.{highest}
use Rattle.hull_polyhedron.proofs.Solids.{with_sign}

-- the nodes after p climb at one place along the ship
abbrev pub Climbs : Node → List Node → Type 0
Climbs p [] = Unit {0}
Climbs p (q ∷ rest) = (q.x ≡ p.x) × (p.z <ℤ q.z) × Climbs q rest

pub product_positive : (m n : ℤ) → pos 0 <ℤ m → pos 0 <ℤ n → pos 0 <ℤ (m *ℤ n)
product_positive (pos zero) n h k = absurd (omega (arith, ints))
product_positive (negsuc m) n h k = absurd (omega (arith, ints))
product_positive (pos (suc m)) (pos zero) h k = absurd (omega (arith, ints))
product_positive (pos (suc m)) (negsuc n) h k = absurd (omega (arith, ints))
product_positive (pos (suc m)) (pos (suc n)) h k = omega (arith, ints)

below_nought : (n : ℤ) → pos 0 <ℤ neg_ℤ n → int_lt n (pos 0) ≡ true
below_nought (pos zero) h = absurd (omega (arith, ints))
below_nought (pos (suc n)) h = absurd (omega (arith, ints))
below_nought (negsuc n) h = grind arith

above_nought : (n : ℤ) → pos 0 <ℤ n → int_lt n (pos 0) ≡ false
above_nought (pos n) h = grind arith
above_nought (negsuc n) h = absurd (omega (arith, ints))

-- two nodes of the aft chain and one of the fore chain turn back, and one and two turn on
pub aft_turn : (p n q : Node) → n.x ≡ p.x → p.z <ℤ n.z → p.x <ℤ q.x → pos 0 <ℤ neg_ℤ (turn (triangle p n q))
aft_turn p n q e h k = subst_less opposite_turn (product_positive (n.z -ℤ p.z) (q.x -ℤ p.x) (difference h) (difference k))
  where
    difference : {a b : ℤ} → a <ℤ b → pos 0 <ℤ (b -ℤ a)
    difference h = omega (arith, ints)

    subst_less : {a b : ℤ} → a ≡ b → pos 0 <ℤ b → pos 0 <ℤ a
    subst_less e h = omega (arith, ints)

    opposite_turn : neg_ℤ (turn (triangle p n q)) ≡ (n.z -ℤ p.z) *ℤ (q.x -ℤ p.x)
    opposite_turn = ring_from integers (n.x ∷ p.x ∷ q.x ∷ n.z ∷ p.z ∷ q.z ∷ []) ((opposite (var 5 :- var 4), var 0, var 1) ∷ []) (given e none)
        (opposite ((var 0 :- var 1) :* (var 5 :- var 4) :- (var 3 :- var 4) :* (var 2 :- var 1))) ((var 3 :- var 4) :* (var 2 :- var 1)) refl

pub fore_turn : (p q n : Node) → n.x ≡ q.x → q.z <ℤ n.z → p.x <ℤ q.x → pos 0 <ℤ turn (triangle p q n)
fore_turn p q n e h k = subst_less same_turn (product_positive (q.x -ℤ p.x) (n.z -ℤ q.z) (difference k) (difference h))
  where
    difference : {a b : ℤ} → a <ℤ b → pos 0 <ℤ (b -ℤ a)
    difference h = omega (arith, ints)

    subst_less : {a b : ℤ} → a ≡ b → pos 0 <ℤ b → pos 0 <ℤ a
    subst_less e h = omega (arith, ints)

    same_turn : turn (triangle p q n) ≡ (q.x -ℤ p.x) *ℤ (n.z -ℤ q.z)
    same_turn = ring_from integers (n.x ∷ p.x ∷ q.x ∷ n.z ∷ p.z ∷ q.z ∷ []) ((opposite (var 5 :- var 4), var 0, var 2) ∷ []) (given e none)
        ((var 2 :- var 1) :* (var 3 :- var 4) :- (var 5 :- var 4) :* (var 0 :- var 1)) ((var 2 :- var 1) :* (var 3 :- var 5)) refl

aft_turns_back : (p n q : Node) → n.x ≡ p.x → p.z <ℤ n.z → p.x <ℤ q.x → turns_back (triangle p n q) ≡ true
aft_turns_back p n q e h k = below_nought (turn (triangle p n q)) (aft_turn p n q e h k)

fore_turns_on : (p q n : Node) → n.x ≡ q.x → q.z <ℤ n.z → p.x <ℤ q.x → turns_back (triangle p q n) ≡ false
fore_turns_on p q n e h k = above_nought (turn (triangle p q n)) (fore_turn p q n e h k)

-- along edges between nodes, V counts something
module _ (V : Node → Node → ℤ) where
  -- what the edges of a triangle count, with the sign of its turn
  abbrev pub counted : Triangle Node → ℤ
  counted t = with_sign (turns_back t) ((V t.b t.c -ℤ V t.a t.c) +ℤ V t.a t.b)

  abbrev pub along : Node → List Node → ℤ
  along p [] = pos 0
  along p (q ∷ rest) = V p q +ℤ along q rest

  -- the edge between the ends, less that between the beginnings, and the chains
  abbrev pub ends : Node → List Node → Node → List Node → ℤ
  ends p aft q fore = ((V (highest p aft) (highest q fore) -ℤ V p q) +ℤ along p aft) -ℤ along q fore

  aft_counted : (p n q : Node) → n.x ≡ p.x → p.z <ℤ n.z → p.x <ℤ q.x → counted (triangle p n q) ≡ (V n q -ℤ V p q) +ℤ V p n
  aft_counted p n q e h k = ap (λ (b : Bool). with_sign b ((V n q -ℤ V p q) +ℤ V p n)) (aft_turns_back p n q e h k)

  fore_counted : (p q n : Node) → n.x ≡ q.x → q.z <ℤ n.z → p.x <ℤ q.x → counted (triangle p q n) ≡ neg_ℤ ((V q n -ℤ V p n) +ℤ V p q)
  fore_counted p q n e h k = ap (λ (b : Bool). with_sign b ((V q n -ℤ V p n) +ℤ V p q)) (fore_turns_on p q n e h k)

  over_fore : (p q : Node) (fore : List Node) → p.x <ℤ q.x → Climbs q fore → sum_of counted (fore_triangles p q fore) ≡ ends p [] q fore
  over_fore p q [] k climbs = ring integers (V p q ∷ []) (number 0) (((var 0 :- var 0) :+ number 0) :- number 0) refl
  over_fore p q (n ∷ fore) k climbs =
      ap₂ ◌+ℤ◌ (fore_counted p q n climbs.0 climbs.1 k) (over_fore p n fore (later (sym climbs.0) k) climbs.2)
      ∙ ring integers (V q n ∷ V p n ∷ V p q ∷ V p (highest n fore) ∷ along n fore ∷ [])
      (opposite ((var 0 :- var 1) :+ var 2) :+ (((var 3 :- var 1) :+ number 0) :- var 4)) (((var 3 :- var 2) :+ number 0) :- (var 0 :+ var 4)) refl
    where
      later : {a b c : ℤ} → b ≡ c → a <ℤ b → a <ℤ c
      later e h = omega (arith, ints)

  -- the aft chain advances at last
  over_advance : (p n : Node) (after : Node → List Node → List (Triangle Node)) (aft : List Node)
      → ((q : Node) (fore : List Node) → n.x <ℤ q.x → Climbs q fore → sum_of counted (after q fore) ≡ ends n aft q fore)
      → n.x ≡ p.x → p.z <ℤ n.z → (q : Node) (fore : List Node) → p.x <ℤ q.x → Climbs q fore → sum_of counted (advance p n after q fore) ≡ ends p (n ∷ aft) q fore
  over_advance p n after aft over e h q fore k climbs = go q fore k climbs
    where
      later : {a b c : ℤ} → b ≡ c → a <ℤ b → a <ℤ c
      later e h = omega (arith, ints)

      earlier : {a b c : ℤ} → b ≡ a → a <ℤ c → b <ℤ c
      earlier e h = omega (arith, ints)

      step : (q : Node) (fore : List Node) → p.x <ℤ q.x → Climbs q fore → counted (triangle p n q) +ℤ sum_of counted (after q fore) ≡ ends p (n ∷ aft) q fore
      step q fore k climbs = ap₂ ◌+ℤ◌ (aft_counted p n q e h k) (over q fore (earlier e k) climbs)
          ∙ ring integers (V n q ∷ V p q ∷ V p n ∷ V (highest n aft) (highest q fore) ∷ along n aft ∷ along q fore ∷ [])
          (((var 0 :- var 1) :+ var 2) :+ (((var 3 :- var 0) :+ var 4) :- var 5)) (((var 3 :- var 1) :+ (var 2 :+ var 4)) :- var 5) refl

      fore_step : (q m : Node) (fore : List Node) → p.x <ℤ q.x → Climbs q (m ∷ fore) → counted (triangle p q m) +ℤ ends p (n ∷ aft) m fore ≡ ends p (n ∷ aft) q (m ∷ fore)
      fore_step q m fore k climbs = ap (λ (s : ℤ). s +ℤ ends p (n ∷ aft) m fore) (fore_counted p q m climbs.0 climbs.1 k)
          ∙ ring integers (V q m ∷ V p m ∷ V p q ∷ V (highest n aft) (highest m fore) ∷ along p (n ∷ aft) ∷ along m fore ∷ [])
          (opposite ((var 0 :- var 1) :+ var 2) :+ (((var 3 :- var 1) :+ var 4) :- var 5)) (((var 3 :- var 2) :+ var 4) :- (var 0 :+ var 5)) refl

      choose : (b : Bool) (xs ys : List (Triangle Node)) (s : ℤ) → sum_of counted xs ≡ s → sum_of counted ys ≡ s → sum_of counted (if b then xs else ys) ≡ s
      choose true xs ys s e f = e
      choose false xs ys s e f = f

      go : (q : Node) (fore : List Node) → p.x <ℤ q.x → Climbs q fore → sum_of counted (advance p n after q fore) ≡ ends p (n ∷ aft) q fore
      go q [] k climbs = step q [] k climbs
      go q (m ∷ fore) k climbs = choose (int_le n.z m.z) (triangle p n q ∷ after q (m ∷ fore)) (triangle p q m ∷ advance p n after m fore) (ends p (n ∷ aft) q (m ∷ fore))
          (step q (m ∷ fore) k climbs)
          (ap (λ (s : ℤ). counted (triangle p q m) +ℤ s) (go m fore (later (sym climbs.0) k) climbs.2) ∙ fore_step q m fore k climbs)

  pub over_zipper : (p : Node) (aft : List Node) (q : Node) (fore : List Node) → p.x <ℤ q.x → Climbs p aft → Climbs q fore → sum_of counted (zipper p aft q fore) ≡ ends p aft q fore
  over_zipper p [] q fore k aft_climbs climbs = over_fore p q fore k climbs
  over_zipper p (n ∷ aft) q fore k aft_climbs climbs =
      over_advance p n (zipper n aft) aft (λ q fore k climbs. over_zipper n aft q fore k aft_climbs.2 climbs) aft_climbs.0 aft_climbs.1 q fore k climbs

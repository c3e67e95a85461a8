-- The strip triangles of a hull: half-breadths of at least 0, and a turn that isn't 0.
use Rattle.std.proofs.Common.{◌≡◌, sym, List, [], ◌∷◌, ◌++◌, map, Bool, true, false, ℤ, pos, neg_ℤ, ◌≤ℤ◌, ◌<ℤ◌, arith}
use mathlib.Core.Logic.{◌≢◌}
use Rattle.std.proofs.lemmas.Int.{ints}
use Rattle.std.specs.Prelude.{int_le, if◌then◌else◌}
use Rattle.std.specs.List.{AllByRecursion}
use Rattle.hull_model.specs.declared.node.Node.{Node}
use Rattle.hull_model.specs.declared.point.Point.{Point}
use Rattle.hull_model.specs.declared.station.Station.{Station}
use Rattle.hull_model.specs.Lists.{Rises}
use Rattle.hull_model.specs.Body.{IsPoint, IsStation}
use Rattle.hull_model.specs.Nodes.{node_at}
use Rattle.hull_model.specs.TriangleCut.{Triangle, triangle}
use Rattle.hull_model.specs.Zipper.{fore_triangles, advance, zipper, between_chains, between_stations, strip_triangles}
use Rattle.hull_model.specs.SignedFaces.{turn}
use Rattle.hull_polyhedron.proofs.Telescope.{Climbs, aft_turn, fore_turn}
use Rattle.hull_polyhedron.proofs.Hulls.{climbs}

abbrev pub IsBroad : Node → Type 0
IsBroad n = pos 0 ≤ℤ n.y

pub record IsProper (t : Triangle Node) : Type 0 where
  pub a : IsBroad t.a
  pub b : IsBroad t.b
  pub c : IsBroad t.c
  pub turns : turn t ≢ pos 0

not_nought_above : {n : ℤ} → pos 0 <ℤ n → n ≢ pos 0
not_nought_above h e = omega (arith, ints)

not_nought_below : {n : ℤ} → pos 0 <ℤ neg_ℤ n → n ≢ pos 0
not_nought_below h e = omega (arith, ints)

pub all-append : {A : Type 0} (P : A → Type 0) (xs ys : List A) → AllByRecursion P xs → AllByRecursion P ys → AllByRecursion P (xs ++ ys)
all-append P [] ys h k = k
all-append P (x ∷ xs) ys h k = (h.0, all-append P xs ys h.1 k)

later : {a b c : ℤ} → b ≡ c → a <ℤ b → a <ℤ c
later e h = omega (arith, ints)

earlier : {a b c : ℤ} → b ≡ a → a <ℤ c → b <ℤ c
earlier e h = omega (arith, ints)

fore_proper : (p q : Node) (fore : List Node) → IsBroad p → IsBroad q → AllByRecursion IsBroad fore → p.x <ℤ q.x → Climbs q fore → AllByRecursion IsProper (fore_triangles p q fore)
fore_proper p q [] bp bq broad k climbs = tt
fore_proper p q (n ∷ fore) bp bq broad k climbs =
    (record { a = bp; b = bq; c = broad.0; turns = not_nought_above (fore_turn p q n climbs.0 climbs.1 k) }, fore_proper p n fore bp broad.0 broad.1 (later (sym climbs.0) k) climbs.2)

advance_proper : (p n : Node) (after : Node → List Node → List (Triangle Node)) → IsBroad p → IsBroad n → n.x ≡ p.x → p.z <ℤ n.z
    → ((q : Node) (fore : List Node) → IsBroad q → AllByRecursion IsBroad fore → n.x <ℤ q.x → Climbs q fore → AllByRecursion IsProper (after q fore))
    → (q : Node) (fore : List Node) → IsBroad q → AllByRecursion IsBroad fore → p.x <ℤ q.x → Climbs q fore → AllByRecursion IsProper (advance p n after q fore)
advance_proper p n after bp bn e h over q fore = go q fore
  where
    step : (q : Node) (fore : List Node) → IsBroad q → AllByRecursion IsBroad fore → p.x <ℤ q.x → Climbs q fore → AllByRecursion IsProper (triangle p n q ∷ after q fore)
    step q fore bq broad k climbs = (record { a = bp; b = bn; c = bq; turns = not_nought_below (aft_turn p n q e h k) }, over q fore bq broad (earlier e k) climbs)

    choose : (b : Bool) (xs ys : List (Triangle Node)) → AllByRecursion IsProper xs → AllByRecursion IsProper ys → AllByRecursion IsProper (if b then xs else ys)
    choose true xs ys e f = e
    choose false xs ys e f = f

    go : (q : Node) (fore : List Node) → IsBroad q → AllByRecursion IsBroad fore → p.x <ℤ q.x → Climbs q fore → AllByRecursion IsProper (advance p n after q fore)
    go q [] bq broad k climbs = step q [] bq broad k climbs
    go q (m ∷ fore) bq broad k climbs = choose (int_le n.z m.z) (triangle p n q ∷ after q (m ∷ fore)) (triangle p q m ∷ advance p n after m fore)
        (step q (m ∷ fore) bq broad k climbs)
        (record { a = bp; b = bq; c = broad.0; turns = not_nought_above (fore_turn p q m climbs.0 climbs.1 k) }, go m fore broad.0 broad.1 (later (sym climbs.0) k) climbs.2)

zipper_proper : (p : Node) (aft : List Node) (q : Node) (fore : List Node) → IsBroad p → AllByRecursion IsBroad aft → IsBroad q → AllByRecursion IsBroad fore → p.x <ℤ q.x → Climbs p aft → Climbs q fore
    → AllByRecursion IsProper (zipper p aft q fore)
zipper_proper p [] q fore bp broad_aft bq broad k aft_climbs climbs = fore_proper p q fore bp bq broad k climbs
zipper_proper p (n ∷ aft) q fore bp broad_aft bq broad k aft_climbs climbs =
    advance_proper p n (zipper n aft) bp broad_aft.0 aft_climbs.0 aft_climbs.1
    (λ q fore bq broad k climbs. zipper_proper n aft q fore broad_aft.0 broad_aft.1 bq broad k aft_climbs.2 climbs) q fore bq broad k climbs

pub broad_nodes : (x : ℤ) (points : List Point) → AllByRecursion IsPoint points → AllByRecursion IsBroad (map (node_at x) points)
broad_nodes x [] all = tt
broad_nodes x (p ∷ points) all = (all.0.breadth.0, broad_nodes x points all.1)

chains_proper : (x y : ℤ) (os ps : List Point) → AllByRecursion IsPoint os → AllByRecursion IsPoint ps → Rises (λ p. p.z) os → Rises (λ p. p.z) ps → x <ℤ y
    → AllByRecursion IsProper (between_chains (map (node_at x) os) (map (node_at y) ps))
chains_proper x y [] ps all all' rises rises' less = tt
chains_proper x y (o ∷ os) [] all all' rises rises' less = tt
chains_proper x y (o ∷ os) (p ∷ ps) all all' rises rises' less =
    zipper_proper (node_at x o) (map (node_at x) os) (node_at y p) (map (node_at y) ps) all.0.breadth.0 (broad_nodes x os all.1) all'.0.breadth.0 (broad_nodes y ps all'.1) less (climbs x o os rises) (climbs y p ps rises')

pub strip_proper : (s t : Station) → IsStation s → IsStation t → s.x <ℤ t.x → AllByRecursion IsProper (between_stations s t)
strip_proper s t aft fore less = chains_proper s.x t.x s.points t.points aft.limits fore.limits aft.heights_rise fore.heights_rise less

pub all_proper : (stations : List Station) → AllByRecursion IsStation stations → Rises (λ s. s.x) stations → AllByRecursion IsProper (strip_triangles stations)
all_proper [] each rises = tt
all_proper (s ∷ []) each rises = tt
all_proper (s ∷ t ∷ rest) each rises = all-append IsProper (between_stations s t) (strip_triangles (t ∷ rest)) (strip_proper s t each.0 each.1.0 rises.0) (all_proper (t ∷ rest) each.1 rises.1)

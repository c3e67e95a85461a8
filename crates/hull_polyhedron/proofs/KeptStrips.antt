-- What is kept of the strips of a hull, as the call that makes the boundary has it.
use Rattle.std.proofs.Common.{ℕ, suc, ◌+◌, ◌*◌, ◌≤◌, ◌<◌, ◌≡◌, sym, ◌∙◌, ap, ap₂, List, [], ◌∷◌, ◌++◌, length, get_or, ℤ, ◌≤ℤ◌, unsigned_abs, arith}
use mathlib.Core.Path.{subst}
use Rattle.std.proofs.lemmas.List.{append_assoc, length-append}
use Rattle.std.specs.List.{AllByRecursion, slice_range}
use Rattle.hull_model.specs.declared.face.Face.{Face}
use Rattle.hull_model.specs.declared.node.Node.{Node}
use Rattle.hull_model.specs.declared.station.Station.{Station}
use Rattle.hull_model.specs.Body.{IsHull}
use Rattle.hull_model.specs.Submerged.{first_x, last_x}
use Rattle.hull_model.specs.Zipper.{chain}
use Rattle.hull_polyhedron.specs.declared.part.Part.{Part}
use Rattle.hull_polyhedron.specs.declared.totals.Totals.{Totals}
use Rattle.hull_polyhedron.specs.Between.{IsBetween, IsInside}
use Rattle.hull_polyhedron.specs.Extent.{IsGreatest}
use Rattle.hull_polyhedron.specs.Listed.{kept, strips, first_end, last_end, listed}
use Rattle.hull_polyhedron.specs.Parts.{part_at, parts_from, AreInOrder, IsPartOf}
use Rattle.hull_polyhedron.specs.SideAreas.{seen_from_side}
use Rattle.hull_polyhedron.specs.StripLists.{joined, node_lists, face_lists}
use Rattle.hull_polyhedron.specs.Strips.{strips_of, strip_at, station_nodes, faces_in, tetrahedra_between}
use Rattle.hull_polyhedron.specs.Totals.{totals_of}
use Rattle.hull_polyhedron.specs.TotalsModel.{none, minus, running_from, totals_at}
use Rattle.hull_polyhedron.proofs.Between.{hull_between, places_hold, stations_inside}
use Rattle.hull_polyhedron.proofs.FacesInStrips.{lists-length, kept-joined, listed_in_strip, nodes-length, nodes_at}
use Rattle.hull_polyhedron.proofs.Kept.{kept-append}
use Rattle.hull_polyhedron.proofs.PartSlices.{parts-length, parts_within, in_order, list_at, only_list_at}
use Rattle.hull_polyhedron.proofs.Proper.{all-append}
use Rattle.hull_polyhedron.proofs.RunningTotals.{totals_between}
use Rattle.hull_polyhedron.proofs.SideAreas.{strips_low}
use Rattle.hull_polyhedron.proofs.StripSizes.{running_length, strips_short}

-- what holds of the points of all stations holds of those of all strips
nodes_hold : (Q : Node → Type 0) (stations : List Station) → AllByRecursion (λ s. AllByRecursion Q (chain s)) stations → AllByRecursion Q (joined (node_lists stations))
nodes_hold Q [] all = tt
nodes_hold Q (s ∷ []) all = tt
nodes_hold Q (s ∷ t ∷ rest) all = all-append Q (chain s ++ (chain t ++ [])) (joined (node_lists (t ∷ rest)))
    (all-append Q (chain s) (chain t ++ []) all.0 (all-append Q (chain t) [] all.1.0 tt)) (nodes_hold Q (t ∷ rest) all.1)

-- the faces of the strips lie between those of the ends
faces_laid : (stations : List Station) → kept (listed stations) ≡ kept (first_end stations) ++ (joined (face_lists stations) ++ kept (last_end stations))
faces_laid stations = kept-append (first_end stations ++ strips stations) (last_end stations)
    ∙ ap (λ fs. fs ++ kept (last_end stations)) (kept-append (first_end stations) (strips stations) ∙ ap (λ fs. kept (first_end stations) ++ fs) (kept-joined stations))
    ∙ append_assoc (kept (first_end stations)) (joined (face_lists stations)) (kept (last_end stations))

module _ (stations : List Station) (hull : IsHull stations) where
  abbrev face_place : ℕ
  face_place = length (kept (first_end stations))

  -- ---- how many there are
  pub faces_counted : {parts : List Part} → parts ≡ parts_from face_place (face_lists stations) → length parts ≡ length (strips_of stations)
  faces_counted e = ap length e ∙ parts-length face_place (face_lists stations) ∙ lists-length stations

  pub few_strips : {parts : List Part} → parts ≡ parts_from face_place (face_lists stations) → length parts ≤ 63
  few_strips e = omega (arith, faces_counted e, strips_short stations (omega (arith, hull.some)), hull.few)

  pub nodes_counted : {parts nodes : List Part} → parts ≡ parts_from face_place (face_lists stations) → nodes ≡ parts_from 0 (node_lists stations) → length nodes ≡ length parts
  nodes_counted e f = ap length f ∙ parts-length 0 (node_lists stations) ∙ nodes-length stations ∙ sym (faces_counted e)

  pub totals_counted : {parts : List Part} {totals : List Totals} → parts ≡ parts_from face_place (face_lists stations) → totals ≡ none ∷ running_from none (strips_of stations) → length totals ≡ length parts + 1
  totals_counted e f = omega (arith, ap length f, running_length none (strips_of stations), faces_counted e)

  -- ---- where they lie
  pub face_parts_within : {list : List Face} {parts : List Part} → list ≡ kept (listed stations) → parts ≡ parts_from face_place (face_lists stations) → AllByRecursion (IsPartOf (length list)) parts
  face_parts_within {list} e f = subst (AllByRecursion (IsPartOf (length list))) (sym f) (parts_within face_place (face_lists stations) (length list)
      (omega (arith, ap length e, ap length (faces_laid stations), length-append (kept (first_end stations)) (joined (face_lists stations) ++ kept (last_end stations)), length-append (joined (face_lists stations)) (kept (last_end stations)))))

  pub node_parts_within : {nodes : List Node} {parts : List Part} → nodes ≡ joined (node_lists stations) → parts ≡ parts_from 0 (node_lists stations) → AllByRecursion (IsPartOf (length nodes)) parts
  node_parts_within {nodes} e f = subst (AllByRecursion (IsPartOf (length nodes))) (sym f) (parts_within 0 (node_lists stations) (length nodes) (omega (arith, ap length e)))

  pub parts_in_order : {parts : List Part} → parts ≡ parts_from face_place (face_lists stations) → AreInOrder parts
  parts_in_order e = subst AreInOrder (sym e) (in_order face_place (face_lists stations))

  pub nodes_between : {first last : ℤ} {nodes : List Node} → first ≡ first_x stations → last ≡ last_x stations → nodes ≡ joined (node_lists stations) → AllByRecursion (IsBetween first last) nodes
  nodes_between {first} {last} e f g = subst (AllByRecursion (IsBetween first last)) (sym g)
      (subst (λ (m : ℤ). AllByRecursion (IsBetween m last) (joined (node_lists stations))) (sym e) (subst (λ (m : ℤ). AllByRecursion (IsBetween (first_x stations) m) (joined (node_lists stations))) (sym f)
      (nodes_hold (IsBetween (first_x stations) (last_x stations)) stations (places_hold (λ (x : ℤ). (first_x stations ≤ℤ x) × (x ≤ℤ last_x stations)) stations (hull_between stations hull.places_rise)))))

  -- ---- what they are
  slice_at : {list : List Face} {parts : List Part} → list ≡ kept (listed stations) → parts ≡ parts_from face_place (face_lists stations) → (n : ℕ) → n < length (strips_of stations)
      → slice_range list (part_at parts n).from (part_at parts n).to ≡ get_or (face_lists stations) n []
  slice_at e f n less = ap₂ (λ (list : List Face) (parts : List Part). slice_range list (part_at parts n).from (part_at parts n).to) (e ∙ faces_laid stations) f
      ∙ list_at (kept (first_end stations)) (face_lists stations) (kept (last_end stations)) n (omega (arith, lists-length stations, less))

  pub strip_faces_at : {list : List Face} {parts : List Part} → list ≡ kept (listed stations) → parts ≡ parts_from face_place (face_lists stations) → (n : ℕ) → n < length parts
      → slice_range list (part_at parts n).from (part_at parts n).to ≡ faces_in (strip_at stations n) list
  strip_faces_at e f n less = slice_at e f n within ∙ sym (listed_in_strip stations hull n within) ∙ ap (faces_in (strip_at stations n)) (sym e)
    where
      within : n < length (strips_of stations)
      within = omega (arith, faces_counted f, less)

  pub strip_nodes_at : {nodes : List Node} {parts : List Part} → nodes ≡ joined (node_lists stations) → parts ≡ parts_from 0 (node_lists stations) → (n : ℕ) → n < length (strips_of stations)
      → slice_range nodes (part_at parts n).from (part_at parts n).to ≡ station_nodes (strip_at stations n)
  strip_nodes_at e f n less = ap₂ (λ (nodes : List Node) (parts : List Part). slice_range nodes (part_at parts n).from (part_at parts n).to) e f
      ∙ only_list_at (node_lists stations) n (omega (arith, nodes-length stations, less)) ∙ nodes_at stations n

  pub totals_at_strips : {totals : List Totals} → totals ≡ none ∷ running_from none (strips_of stations) → (from to : ℕ) → from ≤ to → to ≤ length (strips_of stations)
      → minus (totals_at totals to) (totals_at totals from) ≡ totals_of (tetrahedra_between stations from to)
  totals_at_strips e from to ordered within = ap (λ (totals : List Totals). minus (totals_at totals to) (totals_at totals from)) e ∙ totals_between stations from to ordered within

  -- ---- within the half-breadth and the height
  module _ (half_breadth height : ℤ) (breadth : IsGreatest (λ p. p.y) stations half_breadth) (high : IsGreatest (λ p. p.z) stations height) where
    all_inside : AllByRecursion (λ s. AllByRecursion (IsInside half_breadth height) (chain s)) stations
    all_inside = stations_inside half_breadth height stations hull.each breadth.above high.above

    pub nodes_inside : {nodes : List Node} → nodes ≡ joined (node_lists stations) → AllByRecursion (IsInside half_breadth height) nodes
    nodes_inside e = subst (AllByRecursion (IsInside half_breadth height)) (sym e) (nodes_hold (IsInside half_breadth height) stations all_inside)

    pub strips_lie_low : {list : List Face} {parts : List Part} {totals : List Totals} → list ≡ kept (listed stations) → parts ≡ parts_from face_place (face_lists stations) → totals ≡ none ∷ running_from none (strips_of stations)
        → (n : ℕ) → n < length parts → unsigned_abs (minus (totals_at totals (suc n)) (totals_at totals n)).mz24 ≤ 12 * (seen_from_side (slice_range list (part_at parts n).from (part_at parts n).to) * (unsigned_abs half_breadth * unsigned_abs height))
    strips_lie_low {list} {parts} {totals} e f g n less = subst (λ (fs : List Face). unsigned_abs (minus (totals_at totals (suc n)) (totals_at totals n)).mz24 ≤ 12 * (seen_from_side fs * (unsigned_abs half_breadth * unsigned_abs height)))
        (sym (slice_at e f n (omega (arith, faces_counted f, less))))
        (subst (λ (ts : List Totals). unsigned_abs (minus (totals_at ts (suc n)) (totals_at ts n)).mz24 ≤ 12 * (seen_from_side (get_or (face_lists stations) n []) * (unsigned_abs half_breadth * unsigned_abs height))) (sym g)
        (strips_low half_breadth height stations all_inside n (omega (arith, faces_counted f, less))))

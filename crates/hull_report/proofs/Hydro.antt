-- The figures of a hydro line.
use Rattle.std.proofs.Common.{◌≡◌, ℕ, ◌<◌, ◌≤◌, ◌+◌, Bool, true, false, List, [], ◌∷◌, ◌++◌, length, get_or, drop, Option, Some, None, refl, ap, ◌∙◌}
use Rattle.std.proofs.Math.Seq.{drop-cons}
use Rattle.std.proofs.Math.ListN.{drop_of_length-le}
use native.Mathlib.Numerals.{unary_clauses}
use Rattle.outward_interval.specs.declared.figure.Figure.{Figure}
use Rattle.hull_report.specs.Spelling.{word_text, spaced, figure_or_absent, figure_words}

same_text : (may : Bool) (f : Option Figure) → word_text (figure_or_absent may f) ≡ word_text (figure_or_absent true f)
unfolding word_text
same_text true f = refl
same_text false (Some f) = refl
same_text false None = refl

pub next_figure : (places : List Bool) (figures : List (Option Figure)) (i : ℕ) (d f : Option Figure) → i < length places → i < length figures → f ≡ get_or figures i d →
    spaced (figure_words (drop i places) (drop i figures)) ≡ (32 ∷ word_text (figure_or_absent true f)) ++ spaced (figure_words (drop (i + 1) places) (drop (i + 1) figures))
unfolding spaced
next_figure places figures i d f h k e =
    let place : drop i places ≡ get_or places i false ∷ drop (i + 1) places = simp unary_clauses (drop-cons places i false h) in
    let figure : drop i figures ≡ f ∷ drop (i + 1) figures = rw e (simp unary_clauses (drop-cons figures i d k)) in
    ap (λ p. spaced (figure_words p (drop i figures))) place
    ∙ ap (λ f. spaced (figure_words (get_or places i false ∷ drop (i + 1) places) f)) figure
    ∙ ap (λ t. (32 ∷ t) ++ spaced (figure_words (drop (i + 1) places) (drop (i + 1) figures))) (same_text (get_or places i false) f)

pub no_figure : (places : List Bool) (figures : List (Option Figure)) (i : ℕ) → length places ≤ i → length figures ≤ i → spaced (figure_words (drop i places) (drop i figures)) ≡ []
unfolding spaced
no_figure places figures i h k = ap (λ p. spaced (figure_words p (drop i figures))) (drop_of_length-le places h) ∙ ap (λ f. spaced (figure_words [] f)) (drop_of_length-le figures k)

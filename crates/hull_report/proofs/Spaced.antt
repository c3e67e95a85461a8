-- The last word of a line or of a part of it, written behind its space.
use Rattle.std.proofs.Common.{◌≡◌, ℕ, List, [], ◌∷◌, ◌++◌, Result, OnOk, sym, ap, ◌∙◌, append_assoc}
use Rattle.std.proofs.lemmas.List.{append-nil}
use Rattle.std.proofs.lemmas.Result.{on_ok_weaker}
use Rattle.hull_report.specs.Spelling.{Word, word_text, spaced, joined}

pub one_word : {A E : Type 0} (r : Result A E) (text more : List ℕ) (w : Word) → OnOk r (more ≡ text ++ 32 ∷ word_text w) → OnOk r (more ≡ text ++ spaced (w ∷ []))
unfolding spaced
one_word r text more w h = on_ok_weaker r (λ e. e ∙ ap (λ t. text ++ 32 ∷ t) (sym (append-nil (word_text w)))) h

pub two_words : {A E : Type 0} (r : Result A E) (start text more : List ℕ) (first w : Word) → text ≡ start ++ word_text first → OnOk r (more ≡ text ++ 32 ∷ word_text w) → OnOk r (more ≡ start ++ joined (first ∷ w ∷ []))
unfolding joined
two_words r start text more first w before h =
    on_ok_weaker r (λ e. e ∙ ap (λ t. t ++ spaced (w ∷ [])) before ∙ append_assoc start (word_text first) (spaced (w ∷ []))) (one_word r text more w h)

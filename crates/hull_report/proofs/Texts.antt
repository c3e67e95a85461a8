-- Texts of lines are read from left to right.
use Rattle.std.proofs.Common.{◌≡◌, ◌<◌, ◌≤◌, ℕ, suc, ◌+◌, Bool, true, false, List, [], ◌∷◌, ◌++◌, length, codes, Some, None, refl, Result, Ok, Err, inl, inr, sym, ap, subst, ◌≢◌, ◌∙◌, append_assoc, arith}
use Rattle.std.specs.Global.{Vec}
use Rattle.std.proofs.lemmas.List.{append-nil, length-append}
use Rattle.hull_report.specs.declared.line.Line.{Line}
use Rattle.hull_report.specs.Spelling.{Word, word_text, AreWords, IsLine, AreLines, joined, spaced, line_words, line_text, lines_text}
use Rattle.hull_report.specs.declared.read_back.ReadBack.{ReadBack}
use Rattle.hull_report.specs.declared.read_back.ReadBack.TheVariants as back
use Rattle.hull_report.specs.Answers.{Begins, IsFirstBad, Answers, IsReadAs, IsBadAt}
use Rattle.hull_report.specs.Reading.{cut}
use Rattle.hull_report.specs.Fields.{line_at}
use Rattle.hull_report.proofs.Ranges.{Lacks, lacks_append, above_lacks}
use Rattle.hull_report.proofs.Cuts.{cut_at, cut_parts}
use Rattle.hull_report.proofs.WordTexts.{word_above}
use Rattle.hull_report.proofs.LineTexts.{line_again}

-- no line feed stands in the words of a line
spaced_lacks : (words : List Word) → AreWords words → Lacks 10 (spaced words)
unfolding spaced
spaced_lacks [] h = tt
spaced_lacks (w ∷ words) h = (refl, lacks_append 10 (word_text w) (spaced words) (above_lacks 10 (word_text w) (omega arith) (word_above w h.0)) (spaced_lacks words h.1))

joined_lacks : (words : List Word) → AreWords words → Lacks 10 (joined words)
unfolding joined
joined_lacks [] h = tt
joined_lacks (w ∷ words) h = lacks_append 10 (word_text w) (spaced words) (above_lacks 10 (word_text w) (omega arith) (word_above w h.0)) (spaced_lacks words h.1)

pub line_cut : (l : Line) (after : List ℕ) → IsLine l → cut 10 (line_text l ++ after) ≡ Some (joined (line_words l), after)
line_cut l after h = ap (cut 10) (append_assoc (joined (line_words l)) (codes "\n") after) ∙ cut_at 10 (joined (line_words l)) after (joined_lacks (line_words l) h)

none_some : {A : Type 0} (x : A) → None ≡ Some x → ⊥
none_some x e = absurd cc

same_some : {A : Type 0} (x y : A) → Some x ≡ Some y → x ≡ y
same_some x y e = cc

pub not_both : (b : Bool) → b ≡ true → b ≡ false → ⊥
not_both b h k = absurd cc

-- where no line is read, none stands there
pub no_feed : (bytes : List ℕ) → None ≡ cut 10 bytes → Begins bytes None
no_feed bytes none l after h e = none_some (joined (line_words l), after) (none ∙ ap (cut 10) e ∙ line_cut l after h)

text_is : (bytes text rest : List ℕ) (l : Line) (after : List ℕ) → Some (text, rest) ≡ cut 10 bytes → IsLine l → bytes ≡ line_text l ++ after → line_at text ≡ Some l
text_is bytes text rest l after parts h e =
    ap (λ (p : List ℕ × List ℕ). line_at p.0) (same_some (text, rest) (joined (line_words l), after) (parts ∙ ap (cut 10) e ∙ line_cut l after h)) ∙ line_again l h

pub no_line : (bytes text rest : List ℕ) → Some (text, rest) ≡ cut 10 bytes → None ≡ line_at text → Begins bytes None
no_line bytes text rest parts none l after h e = none_some l (none ∙ text_is bytes text rest l after parts h e)

-- where the line that is read spells another text, none stands there
pub other_text : (bytes text rest : List ℕ) (m : Line) → Some (text, rest) ≡ cut 10 bytes → Some m ≡ line_at text → joined (line_words m) ≢ text → Begins bytes None
other_text bytes text rest m parts read other l after h e =
    let same = same_some m l (read ∙ text_is bytes text rest l after parts h e) in
    let words = same_some (text, rest) (joined (line_words l), after) (parts ∙ ap (cut 10) e ∙ line_cut l after h) in
    other (ap (λ l. joined (line_words l)) same ∙ sym (ap (λ (p : List ℕ × List ℕ). p.0) words))

-- where it spells this text, it stands there
pub this_text : (bytes text rest : List ℕ) (m : Line) → Some (text, rest) ≡ cut 10 bytes → joined (line_words m) ≡ text → bytes ≡ line_text m ++ rest
this_text bytes text rest m parts same =
    cut_parts 10 bytes text rest parts ∙ ap (λ t. t ++ 10 ∷ rest) (sym same) ∙ sym (append_assoc (joined (line_words m)) (codes "\n") rest)

-- a line more
pub lines_more : (lines : List Line) (l : Line) → AreLines lines → IsLine l → AreLines (lines ++ l ∷ [])
lines_more [] l h k = (k, tt)
lines_more (m ∷ lines) l h k = (h.0, lines_more lines l h.1 k)

pub text_more : (lines : List Line) (l : Line) → lines_text (lines ++ l ∷ []) ≡ lines_text lines ++ line_text l
text_more [] l = append-nil (line_text l)
text_more (m ∷ lines) l = ap (λ t. line_text m ++ t) (text_more lines l) ∙ sym (append_assoc (line_text m) (lines_text lines) (line_text l))

pub line_length : (l : Line) → 0 < length (line_text l)
line_length l = omega (arith, length-append (joined (line_words l)) (codes "\n"))

text_length : (l : Line) (a : List ℕ) → 0 < length (line_text l ++ a)
text_length l a = omega (arith, length-append (line_text l) a, line_length l)

-- no text of a line begins another
one_line : (l m : Line) (a b : List ℕ) → IsLine l → IsLine m → line_text l ++ a ≡ line_text m ++ b → (l ≡ m) × (a ≡ b)
one_line l m a b h k e =
    let parts : (joined (line_words l), a) ≡ (joined (line_words m), b) = same_some _ _ (sym (line_cut l a h) ∙ ap (cut 10) e ∙ line_cut m b k) in
    (same_some l m (sym (line_again l h) ∙ ap (λ (p : List ℕ × List ℕ). line_at p.0) parts ∙ line_again m k), ap (λ (p : List ℕ × List ℕ). p.1) parts)

no_more : (l : Line) (a b : List ℕ) → [] ≡ (line_text l ++ a) ++ b → ⊥
no_more l a b e = omega (arith, ap length e, length-append (line_text l ++ a) b, text_length l a)

-- a text is that of one list of lines
pub one_reading : (lines others : List Line) → AreLines lines → AreLines others → lines_text lines ≡ lines_text others → lines ≡ others
one_reading [] [] h k e = refl
one_reading [] (m ∷ others) h k e = absurd (no_more m (lines_text others) [] (e ∙ sym (append-nil (line_text m ++ lines_text others))))
one_reading (l ∷ lines) [] h k e = absurd (no_more l (lines_text lines) [] (sym e ∙ sym (append-nil (line_text l ++ lines_text lines))))
one_reading (l ∷ lines) (m ∷ others) h k e =
    let first = one_line l m (lines_text lines) (lines_text others) h.0 k.0 e in
    ap (λ x. x ∷ lines) first.0 ∙ ap (λ xs. m ∷ xs) (one_reading lines others h.1 k.1 first.1)

-- lines have no bad line among them
none_bad : (lines others : List Line) (rest : List ℕ) → AreLines lines → AreLines others → 0 < length rest → Begins rest None → lines_text lines ≡ lines_text others ++ rest → ⊥
none_bad [] [] rest h k some bad e = omega (arith, some, ap length e)
none_bad (l ∷ lines) [] rest h k some bad e = bad l (lines_text lines) h.0 (sym e)
none_bad [] (m ∷ others) rest h k some bad e = no_more m (lines_text others) rest e
none_bad (l ∷ lines) (m ∷ others) rest h k some bad e =
    none_bad lines others rest h.1 k.1 some bad (one_line l m (lines_text lines) (lines_text others ++ rest) h.0 k.0 (e ∙ append_assoc (line_text m) (lines_text others) rest)).1

-- one line is the first bad one
one_bad : (lines others : List Line) (rest left : List ℕ) → AreLines lines → AreLines others → Begins rest None → Begins left None → lines_text lines ++ rest ≡ lines_text others ++ left → length lines ≡ length others
one_bad [] [] rest left h k bad other e = refl
one_bad [] (m ∷ others) rest left h k bad other e = absurd (bad m (lines_text others ++ left) k.0 (e ∙ append_assoc (line_text m) (lines_text others) left))
one_bad (l ∷ lines) [] rest left h k bad other e = absurd (other l (lines_text lines ++ rest) h.0 (sym e ∙ append_assoc (line_text l) (lines_text lines) rest))
one_bad (l ∷ lines) (m ∷ others) rest left h k bad other e =
    ap suc (one_bad lines others rest left h.1 k.1 bad other (one_line l m (lines_text lines ++ rest) (lines_text others ++ left) h.0 k.0 (sym (append_assoc (line_text l) (lines_text lines) rest) ∙ e ∙ append_assoc (line_text m) (lines_text others) left)).1)

-- what is answered is all that can be
pub read_as : (bytes : List ℕ) (result : Result (Vec Line) ReadBack) (lines : List Line) → Answers bytes result → AreLines lines → bytes ≡ lines_text lines → IsReadAs lines result
read_as bytes (Ok read) lines answer good e = one_reading read.items lines answer.0 good (sym answer.1 ∙ e)
read_as bytes (Err (back.Bad n)) lines answer good e = absurd (none_bad lines answer.lines answer.rest good answer.good answer.some answer.bad (sym e ∙ answer.parts))
read_as bytes (Err back.Memory) lines answer good e = refl

pub bad_at : (bytes : List ℕ) (result : Result (Vec Line) ReadBack) (n : ℕ) → Answers bytes result → IsFirstBad bytes n → IsBadAt n result
bad_at bytes (Ok read) n answer first = absurd (none_bad read.items first.lines first.rest answer.0 first.good first.some first.bad (sym answer.1 ∙ first.parts))
bad_at bytes (Err (back.Bad k)) n answer first =
    let same = one_bad answer.lines first.lines answer.rest first.rest answer.good first.good answer.bad first.bad (sym answer.parts ∙ first.parts) in
    inl (ap (λ k. Err (back.Bad k)) (answer.count ∙ ap suc same ∙ sym first.count))
bad_at bytes (Err back.Memory) n answer first = inr refl

-- what the loop keeps, a line on
pub one_more : (bytes rest after : List ℕ) (lines pushed : List Line) (l : Line) → pushed ≡ lines ++ l ∷ [] → IsLine l → rest ≡ line_text l ++ after →
    AreLines lines → bytes ≡ lines_text lines ++ rest → length lines + length rest ≤ length bytes →
    AreLines pushed × (bytes ≡ lines_text pushed ++ after) × (length pushed + length after ≤ length bytes)
one_more bytes rest after lines pushed l p h e good parts count =
    let text : lines_text pushed ≡ lines_text lines ++ line_text l = ap lines_text p ∙ text_more lines l in (
      subst AreLines (sym p) (lines_more lines l good h),
      parts ∙ ap (λ t. lines_text lines ++ t) e ∙ sym (append_assoc (lines_text lines) (line_text l) after) ∙ ap (λ t. t ++ after) (sym text),
      omega (arith, count, ap length p, length-append lines (l ∷ []), ap length e, length-append (line_text l) after, line_length l),
    )

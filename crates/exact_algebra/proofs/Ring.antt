-- The solver for equations in a commutative ring. `ring` takes the two sides written as expressions, and `ring_from` also
-- equations at hand, each with the factor by which it is taken. The last argument of both is `refl`.
use mathlib.Core.Path.{◌≡◌, refl, sym, ◌∙◌, ap}
use mathlib.Core.List.{List, [], ◌∷◌}
use mathlib.Core.Bool.{true}
use Rattle.exact_algebra.specs.Expression.{Expression, ◌:-◌, ◌:*◌, normal_form, is_zero, SameNormalForm}
use Rattle.exact_algebra.specs.Ring.{CommutativeRing, value}
use Rattle.exact_algebra.proofs.NormalForm as NormalForm

-- equations at hand: a factor, the left side and the right side
abbrev pub Equations : Type 0
Equations = List (Expression × Expression × Expression)

-- an expression less each equation's difference, times its factor
abbrev pub reduced : Expression → Equations → Expression
reduced e [] = e
reduced e ((f, a, b) ∷ equations) = reduced (e :- f :* (a :- b)) equations

module _ (R : CommutativeRing) (values : List R.Carrier) where
  open R use {Carrier, operations, laws}
  open R.operations use {nought, one, ◌⊕◌, ◌⊗◌, negative}

  infixl 6 ◌⊕◌
  infixl 7 ◌⊗◌
  abbrev value_of : Expression → Carrier
  value_of e = value operations values e

  -- two expressions whose difference has the normal form zero are equal
  pub ring : (a b : Expression) → SameNormalForm a b → value_of a ≡ value_of b
  ring a b h = NormalForm.normal_form_sound R values a b h

  -- proofs of equations, one for each of a list: `given first (given second none)`
  pub data Given : Equations → Type 0 where
    none : Given []
    given : {f a b : Expression} {equations : Equations} → value_of a ≡ value_of b → Given equations → Given ((f, a, b) ∷ equations)

  value-reduced : (e : Expression) (equations : Equations) → Given equations → value_of (reduced e equations) ≡ value_of e
  value-reduced e [] g = refl
  value-reduced e ((f, a, b) ∷ equations) (given h g) =
      value-reduced (e :- f :* (a :- b)) equations g
      ∙ ap (λ t. value_of e ⊕ negative (value_of f ⊗ t)) (ap (λ t. t ⊕ negative (value_of b)) h ∙ laws.add_negative (value_of b))
      ∙ ap (λ t. value_of e ⊕ negative t) (NormalForm.mul_nought R (value_of f))
      ∙ ap (λ t. value_of e ⊕ t) (NormalForm.negative-nought R)
      ∙ laws.add_nought (value_of e)

  -- two expressions are equal where their difference is a sum of differences of equal sides, each times its factor
  pub ring_from : (equations : Equations) → Given equations → (a b : Expression) → is_zero (normal_form (reduced (a :- b) equations)) ≡ true → value_of a ≡ value_of b
  ring_from equations g a b h = NormalForm.cancel R _ _ (negative (value_of b)) (sym (value-reduced (a :- b) equations g) ∙ NormalForm.value-zero R values (reduced (a :- b) equations) h ∙ sym (laws.add_negative (value_of b)))

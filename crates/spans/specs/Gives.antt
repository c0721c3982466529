-- WHAT A DOCUMENT GIVES where a language is read in it: what holds of the value. One law for each combinator. Assumes nothing.
use Rattle.std.specs.Prelude.{◌≡◌, List, ◌∷◌, ◌++◌, ℕ, zero, suc, ◌+◌, ◌<◌, length, get_or}
use Rattle.std.proofs.Common.{ap, sym, subst, ◌∙◌, arith, get_or-append-add}
use Rattle.notation.specs.Lang.{Lang, Here, here, Seq, Star, nil, cons, Indented}
use Rattle.language.specs.Blocks.{Lines}
use Rattle.spans.specs.Onward.{Onward, onward_then}
use Rattle.spans.specs.Words.{Words, Values, Moves, ret_values, byte_moves, indented_moves}
use Rattle.spans.specs.Starts.{Low, Starts}
use Rattle.spans.specs.Ascii.{Each, Ascii}

module _ (doc : List ℕ) where
  -- wherever in the document an A begins, its value has R
  abbrev pub Gives : {X : Type 0} → Lang X → (X → Type 0) → Type 0
  Gives A R = Words A (λ at s v at' t. Onward 0 doc at s → R v)

  -- the first byte that is left at a place is the document's byte there
  ascii_here : {at : ℕ} {s : List ℕ} → Onward 0 doc at s → Low s → Ascii doc at
  ascii_here {at} {s} o l =
      let p = o.passed in
      let h = o.place in
      let i : at ≡ length p + 0 = omega arith in
      let e : get_or doc at 128 ≡ get_or s 0 128 = ap (λ (d : List ℕ). get_or d at 128) o.text ∙ (ap (λ (j : ℕ). get_or (p ++ s) j 128) i ∙ get_or-append-add p s 0 128) in
      subst (λ (b : ℕ). b < 128) (sym e) l

  -- what holds of every value holds in the document too
  pub always : {X : Type 0} {A : Lang X} {R : X → Type 0} → Values A R → Gives A R
  always g = record { has = λ z o. g.has z }

  module _ {X Y : Type 0} {A : Lang X} {B : X → Lang Y} {R : Y → Type 0} where
    -- whatever the A before is
    pub behind : Moves A → ((v : X) → Gives (B v) R) → Gives (Seq A B) R
    behind m g = record { has = λ z o. (g z.value).has z.second (onward_then o (m.has z.first)) }

    pub bind : {P : X → Type 0} → Moves A → Gives A P → ((v : X) → P v → Gives (B v) R) → Gives (Seq A B) R
    bind m f g = record { has = λ z o. (g z.value (f.has z.first o)).has z.second (onward_then o (m.has z.first)) }

    -- an A, and then a B that reads no tree
    pub last : {P : X → Type 0} → Gives A P → ((v : X) → P v → Values (B v) R) → Gives (Seq A B) R
    last f g = record { has = λ z o. (g z.value (f.has z.first o)).has z.second }

  -- a place that is noted has an ASCII byte, if what follows starts with one
  pub here_gives : {Y : Type 0} {B : ℕ → Lang Y} {R : Y → Type 0} → ((a : ℕ) → Starts (B a)) → ((a : ℕ) → Ascii doc a → Gives (B a) R) → Gives (Seq Here B) R
  here_gives {Y} {B} {R} f g = record { has = λ z o. by z.first z.second o }
    where
      by : {at : ℕ} {s : List ℕ} {a m : ℕ} {r : List ℕ} {y : Y} {e : ℕ} {t : List ℕ} → Here at s a m r → B a m r y e t → Onward 0 doc at s → R y
      by here z o = (g _ (ascii_here o ((f _).has z))).has z o

  pub star_gives : {X : Type 0} {A : Lang X} {P : X → Type 0} → Moves A → Gives A P → Gives (Star A) (Each P)
  star_gives {X} {A} {P} m f = record { has = go }
    where
      go : {at : ℕ} {s : List ℕ} {vs : List X} {at' : ℕ} {t : List ℕ} → Star A at s vs at' t → Onward 0 doc at s → Each P vs
      go nil o = tt
      go (cons x y) o = (f.has x o, go y (onward_then o (m.has x)))

  pub indented_gives : {X : Type 0} {A : Lang X} {R : X → Type 0} (n : ℕ) → Gives A R → Gives (Indented n A) R
  indented_gives zero f = f
  indented_gives (suc n) f = behind byte_moves (λ b. indented_gives n f)

  pub lines_gives : {X : Type 0} {A : Lang X} {P : X → Type 0} {R : List X → Type 0} (n : ℕ) → Moves A → Gives A P → ((v : X) (vs : List X) → P v → Each P vs → R (v ∷ vs))
      → Gives (Lines n A) R
  lines_gives n m f k = bind m f (λ v h. last (star_gives (indented_moves n m) (indented_gives n f)) (λ vs hs. ret_values (k v vs h hs)))

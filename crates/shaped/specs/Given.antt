-- WHAT HOLDS OF EVERY VALUE of a language: one law for each combinator. Assumes nothing.
use Rattle.std.specs.Prelude.{◌≡◌, List, Bool, true, ℕ, zero, suc}
use Rattle.notation.specs.Lang.{Lang, Byte, byte, Seq, Map, Star, nil, cons, Plus, Such, Indented}
use Rattle.language.specs.Inline.{Listed}
use Rattle.language.specs.Blocks.{Lines}
use Rattle.spans.specs.Words.{Values, alt_words, ret_values, skip}
use Rattle.spans.specs.Ascii.{Each}

module _ {X Y : Type 0} {A : Lang X} {P : X → Type 0} {R : Y → Type 0} (f : Values A P) where
  -- an A, and then a B: from what holds of every A, what holds of every B that follows it
  pub bind_values : {B : X → Lang Y} → ((v : X) → P v → Values (B v) R) → Values (Seq A B) R
  bind_values g = record { has = λ z. (g z.value (f.has z.first)).has z.second }

  pub map_values : {g : X → Y} → ((v : X) → P v → R (g v)) → Values (Map g A) R
  map_values k = bind_values (λ v h. ret_values (k v h))

module _ {X : Type 0} {A : Lang X} {P R : X → Type 0} (f : Values A P) where
  -- what holds of every A may be said more weakly
  pub via_values : ((v : X) → P v → R v) → Values A R
  via_values k = record { has = λ z. k _ (f.has z) }

  pub such_values : {c : X → Bool} → ((v : X) → P v → c v ≡ true → R v) → Values (Such c A) R
  such_values k = record { has = λ z. k _ (f.has z.word) z.passes }

pub byte_values : {f : ℕ → Bool} {R : ℕ → Type 0} → ((b : ℕ) → f b ≡ true → R b) → Values (Byte f) R
byte_values {f} {R} k = record { has = go }
  where
    go : {at : ℕ} {s : List ℕ} {b at' : ℕ} {t : List ℕ} → Byte f at s b at' t → R b
    go (byte {b = b} e) = k b e

module _ {X : Type 0} {A : Lang X} {P : X → Type 0} (f : Values A P) where
  pub star_values : Values (Star A) (Each P)
  star_values = record { has = go }
    where
      go : {at : ℕ} {s : List ℕ} {vs : List X} {at' : ℕ} {t : List ℕ} → Star A at s vs at' t → Each P vs
      go nil = tt
      go (cons x y) = (f.has x, go y)

  pub plus_values : Values (Plus A) (Each P)
  plus_values = bind_values f (λ v h. map_values star_values (λ vs hs. (h, hs)))

  pub indented_values : (n : ℕ) → Values (Indented n A) P
  indented_values zero = f
  indented_values (suc n) = skip (λ b. indented_values n)

-- As with a comma and a space between; As on lines
pub listed_values : {X : Type 0} {A : Lang X} {P : X → Type 0} (close : ℕ) → Values A P → Values (Listed close A) (Each P)
listed_values close f = alt_words (skip (λ b. ret_values tt)) (bind_values f (λ v h. bind_values (star_values (skip (λ w. f))) (λ vs hs. skip (λ b. ret_values (h, hs)))))

pub lines_values : {X : Type 0} {A : Lang X} {P : X → Type 0} (n : ℕ) → Values A P → Values (Lines n A) (Each P)
lines_values n f = bind_values f (λ v h. map_values (star_values (indented_values f n)) (λ vs hs. (h, hs)))

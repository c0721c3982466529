-- WHAT BYTES SPELL: a word of a language, before any rest. One law for each combinator. Assumes nothing.
use Rattle.std.specs.Prelude.{◌≡◌, List, [], ◌∷◌, ◌++◌, Bool, true, ℕ, zero, suc, ◌+◌, length}
use Rattle.std.proofs.Common.{subst, append-nil, append_assoc, arith, length-append}
use Rattle.notation.specs.Lang.{Lang, Ret, ret, Here, here, Byte, byte, Seq, Alt, one, two, Star, nil, cons, Plus, Such, Word, Indented}
use Rattle.exact.specs.Class.{only_is}
use Rattle.language.specs.BlockText.{spaces}

-- from `at` on the bytes w are an A of this value, whatever stands behind them
pub record Reads {X : Type 0} (A : Lang X) (at : ℕ) (w : List ℕ) (v : X) : Type 0 where
  pub word : (rest : List ℕ) → A at (w ++ rest) v (at + length w) rest

-- .. of some value that has P
pub record Spells {X : Type 0} (A : Lang X) (at : ℕ) (w : List ℕ) (P : X → Type 0) : Type 0 where
  pub value : X
  pub reads : Reads A at w value
  pub good : P value

-- a place in another form
moved : {X : Type 0} (A : Lang X) {at e f : ℕ} {s t : List ℕ} {v : X} → e ≡ f → A at s v e t → A at s v f t
moved A {at} {s = s} {t = t} {v = v} p z = subst (λ (e : ℕ). A at s v e t) p z

module _ {X : Type 0} {A : Lang X} {at : ℕ} where
  -- the same bytes, place or value in another form
  pub respelt : {w u : List ℕ} {v : X} → w ≡ u → Reads A at w v → Reads A at u v
  respelt {v = v} p r = subst (λ (w : List ℕ). Reads A at w v) p r

  pub replaced : {w : List ℕ} {v : X} {b : ℕ} → at ≡ b → Reads A at w v → Reads A b w v
  replaced {w} {v} p r = subst (λ (a : ℕ). Reads A a w v) p r

  pub revalued : {w : List ℕ} {v x : X} → v ≡ x → Reads A at w v → Reads A at w x
  revalued {w} p r = subst (λ (v : X). Reads A at w v) p r

  pub spelt_as : {w u : List ℕ} {P : X → Type 0} → w ≡ u → Spells A at w P → Spells A at u P
  spelt_as {P = P} p r = subst (λ (w : List ℕ). Spells A at w P) p r

  -- an A or a B
  pub one_reads : {B : Lang X} {w : List ℕ} {v : X} → Reads A at w v → Reads (Alt A B) at w v
  one_reads r = record { word = λ rest. one (r.word rest) }

  pub two_reads : {B : Lang X} {w : List ℕ} {v : X} → Reads A at w v → Reads (Alt B A) at w v
  two_reads r = record { word = λ rest. two (r.word rest) }

  pub one_spells : {B : Lang X} {w : List ℕ} {P : X → Type 0} → Spells A at w P → Spells (Alt A B) at w P
  one_spells r = record { value = r.value; reads = one_reads r.reads; good = r.good }

  pub two_spells : {B : Lang X} {w : List ℕ} {P : X → Type 0} → Spells A at w P → Spells (Alt B A) at w P
  two_spells r = record { value = r.value; reads = two_reads r.reads; good = r.good }

  -- an A that passes a test
  pub such_reads : {f : X → Bool} {w : List ℕ} {v : X} → f v ≡ true → Reads A at w v → Reads (Such f A) at w v
  such_reads e r = record { word = λ rest. record { word = r.word rest; passes = e } }

  -- any number of As
  pub star_none : Reads (Star A) at [] []
  star_none = record { word = λ rest. moved (Star A) (omega arith) nil }

  pub star_more : {w u : List ℕ} {v : X} {vs : List X} → Reads A at w v → Reads (Star A) (at + length w) u vs → Reads (Star A) at (w ++ u) (v ∷ vs)
  star_more {w} {u} f g = record { word = λ rest. moved (Star A) (omega (arith, length-append w u)) (cons (rw append_assoc (f.word (u ++ rest))) (g.word rest)) }

  -- where nothing stands behind
  pub entire : {w : List ℕ} {v : X} → Reads A at w v → A at w v (at + length w) []
  entire {w} {v} r = subst (λ (s : List ℕ). A at s v (at + length w) []) (append-nil w) (r.word [])

module _ {X : Type 0} {v : X} {at : ℕ} where
  pub ret_reads : Reads (Ret v) at [] v
  ret_reads = record { word = λ rest. moved (Ret v) (omega arith) ret }

module _ {X Y : Type 0} {A : Lang X} {B : X → Lang Y} {at : ℕ} where
  -- an A, and then a B
  pub seq_reads : {w u : List ℕ} {v : X} {y : Y} → Reads A at w v → Reads (B v) (at + length w) u y → Reads (Seq A B) at (w ++ u) y
  seq_reads {w} {u} {v} f g =
      record {
        word = λ rest. record {
          value = v;
          middle = at + length w;
          rest = u ++ rest;
          first = rw append_assoc (f.word (u ++ rest));
          second = moved (B v) (omega (arith, length-append w u)) (g.word rest);
        };
      }

  -- .. that reads nothing
  pub last_reads : {w : List ℕ} {v : X} {y : Y} → Reads A at w v → Reads (B v) (at + length w) [] y → Reads (Seq A B) at w y
  last_reads {w} f g = respelt (append-nil w) (seq_reads f g)

pub byte_reads : {f : ℕ → Bool} {b at : ℕ} → f b ≡ true → Reads (Byte f) at (b ∷ []) b
byte_reads {f} e = record { word = λ rest. moved (Byte f) (omega arith) (byte e) }

module _ {Y : Type 0} {at : ℕ} where
  pub here_then : {B : ℕ → Lang Y} {w : List ℕ} {y : Y} → Reads (B at) at w y → Reads (Seq Here B) at w y
  here_then {w} g = record { word = λ rest. record { value = at; middle = at; rest = w ++ rest; first = here; second = g.word rest } }

  pub byte_then : {B : ℕ → Lang Y} {f : ℕ → Bool} {b : ℕ} {w : List ℕ} {y : Y} → f b ≡ true → Reads (B b) (suc at) w y → Reads (Seq (Byte f) B) at (b ∷ w) y
  byte_then {B} {b = b} {w = w} e g =
      record { word = λ rest. record { value = b; middle = suc at; rest = w ++ rest; first = byte e; second = moved (B b) (omega arith) (g.word rest) } }

-- these bytes; n spaces, and then an A
pub word_reads : {at : ℕ} (bs : List ℕ) → Reads (Word bs) at bs 0
word_reads [] = ret_reads
word_reads (b ∷ bs) = byte_then (only_is b) (word_reads bs)

pub word_then : {Y : Type 0} {B : Lang Y} {at : ℕ} {w : List ℕ} {y : Y} (bs : List ℕ) → Reads B (at + length bs) w y → Reads (Seq (Word bs) (λ x. B)) at (bs ++ w) y
word_then bs g = seq_reads (word_reads bs) g

pub indented_reads : {X : Type 0} {A : Lang X} {at : ℕ} {w : List ℕ} {v : X} (n : ℕ) → Reads A (at + n) w v → Reads (Indented n A) at (spaces n ++ w) v
indented_reads zero r = replaced (omega arith) r
indented_reads {at = at} (suc n) r = byte_then (only_is 32) (indented_reads n (replaced (omega arith) r))

-- one A or more
pub plus_reads : {X : Type 0} {A : Lang X} {at : ℕ} {w u : List ℕ} {v : X} {vs : List X}
    → Reads A at w v → Reads (Star A) (at + length w) u vs → Reads (Plus A) at (w ++ u) (v ∷ vs)
plus_reads f g = seq_reads f (last_reads g ret_reads)

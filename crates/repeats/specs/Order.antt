-- THE ORDER OF NAMES: lists of numbers compared from the left (`Precedes`), and the name of a key, by which alone two are the same. Assumes nothing.
use Rattle.std.specs.Prelude.{◌≡◌, List, [], ◌∷◌, ℕ, ◌<◌}
use Rattle.std.proofs.Math.Path.{refl}
use Rattle.std.proofs.Common.{sym, subst, arith}
use Rattle.std.specs.declared.cmp.Ordering.{Ordering}
use Rattle.std.specs.declared.cmp.Ordering.TheVariants.{Less, Equal, Greater}
use Rattle.repeats.specs.Numbering.{Numbering, Same, mark_of}

-- one list comes before another
pub data Precedes : List ℕ → List ℕ → Type 0 where
  shorter : {b : ℕ} {t : List ℕ} → Precedes [] (b ∷ t)
  lower : {a b : ℕ} {s t : List ℕ} → a < b → Precedes (a ∷ s) (b ∷ t)
  further : {a b : ℕ} {s t : List ℕ} → a ≡ b → Precedes s t → Precedes (a ∷ s) (b ∷ t)

pub never_itself : (s : List ℕ) → Precedes s s → ⊥
never_itself [] x = elim x [ ]
never_itself (a ∷ s) (lower l) = omega arith
never_itself (a ∷ s) (further e x) = never_itself s x

pub onward : {s t u : List ℕ} → Precedes s t → Precedes t u → Precedes s u
onward shorter (lower l) = shorter
onward shorter (further e y) = shorter
onward (lower {a} l) (lower {b = c} m) = let h : a < c = omega arith in lower h
onward (lower {a} l) (further {b = c} e y) = let h : a < c = omega arith in lower h
onward (further {a} e x) (lower {b = c} m) = let h : a < c = omega arith in lower h
onward (further {a} e x) (further {b = c} f y) = let h : a ≡ c = omega arith in further h (onward x y)

-- how two lists stand to each other
unfoldable pub Ordered : List ℕ → List ℕ → Ordering → Type 0
Ordered s t Less = Precedes s t
Ordered s t Equal = s ≡ t
Ordered s t Greater = Precedes t s

module _ (b c : ℕ) (s t : List ℕ) where
  pub ordered_less : b < c → Ordered (b ∷ s) (c ∷ t) Less
  unfolding Ordered
  ordered_less l = lower l

  pub ordered_more : c < b → Ordered (b ∷ s) (c ∷ t) Greater
  unfolding Ordered
  ordered_more l = lower l

  pub ordered_further : b ≡ c → (r : Ordering) → Ordered s t r → Ordered (b ∷ s) (c ∷ t) r
  unfolding Ordered
  ordered_further e Less x = further e x
  ordered_further e Equal x = rw (e, x) refl
  ordered_further e Greater x = further (sym e) x

-- a key's mark, its object and its text
abbrev pub name_of : Numbering → ℕ → List ℕ
name_of N i = mark_of N i ∷ N.object i ∷ N.text i

pub same_name : (N : Numbering) (i k : ℕ) → Same N i k → name_of N i ≡ name_of N k
same_name N i k s = rw (s.objects, s.texts) refl

pub name_same : (N : Numbering) (i k : ℕ) → name_of N i ≡ name_of N k → Same N i k
name_same N i k e = let o : N.object i ≡ N.object k = cc in let t : N.text i ≡ N.text k = cc in record { objects = o; texts = t }

-- keys of which one comes before the other are not the same
pub apart : (N : Numbering) (i k : ℕ) → Precedes (name_of N i) (name_of N k) → Same N i k → ⊥
apart N i k x s = never_itself (name_of N k) (subst (λ (n : List ℕ). Precedes n (name_of N k)) (same_name N i k s) x)

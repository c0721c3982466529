-- WHAT AN EXACT READER ANSWERS where anything may follow: what it reads is a word, where no word begins with a text it is refused within that text,
-- and words are parts of the text. Assumes nothing.
use Rattle.std.specs.Prelude.{◌≡◌, refl, List, [], ◌++◌, ℕ, suc, ◌+◌, ◌≤◌, take, drop}
use Rattle.std.proofs.Common.{sym, subst, arith, take-append-drop}
use Rattle.std.proofs.Math.Decide.{dec_le}
use Rattle.exact.specs.Verdict.{Tail, Res, Begins, Far, Verdict, less, acc, takes, stops}
use Rattle.exact.specs.Out.{Out, Reader, finish, Moves, Tamed, ok, soft, bad, t_ok, t_soft, t_bad}
use Rattle.exact.specs.Lang.{Lang, Then, None, fits_bar, Exact}

-- a value, and where it ends
pub record Spot (X : Type 0) : Type 0 where
  pub value : X
  pub place : ℕ
  pub left : List ℕ

-- anything may follow, and it tells what was read
abbrev pinned : {X : Type 0} → X → ℕ → Tail (Spot X)
pinned v a t w = w ≡ record { value = v; place = a; left = t }

abbrev pinned_r : {X : Type 0} → X → ℕ → List ℕ → Res (Spot X)
pinned_r v a t = acc (record { value = v; place = a; left = t })

pub data Read {X : Type 0} (A : Lang X) (at : ℕ) (s : List ℕ) : Out X → Type 0 where
  read_ok : {v : X} {a : ℕ} {t : List ℕ} → A at s v a t → Read A at s (ok v a t)
  read_soft : {p : ℕ} {v : X} {a : ℕ} {t : List ℕ} → A at s v a t → Read A at s (soft p v a t)
  read_bad : (p : ℕ) → ((v : X) (a : ℕ) (t : List ℕ) → A at s v a t → ⊥) → Read A at s (bad p)

module _ {X : Type 0} {d : ℕ} {A : Lang X} {r : Reader X} (e : Exact d A None r) where
  verdict : (at : ℕ) (s : List ℕ) → Verdict (Then A pinned at) at s (finish (r at s) pinned_r)
  verdict at s =
      e.run
      pinned
      pinned_r
      (λ v a. record { more = []; value = record { value = v; place = a; left = [] }; word = refl })
      (fits_bar (λ v a t w x y. y))
      at
      s
      (λ v a t l. takes _ refl (λ w' x. x))

  word_of : {at : ℕ} {s : List ℕ} {v : X} {a : ℕ} {t : List ℕ} → Then A pinned at s (record { value = v; place = a; left = t }) → A at s v a t
  word_of {at} {s} {v} {a} {t} x = subst (λ (w : Spot X). A at s w.value w.place w.left) (sym x.others) x.first

  -- WHAT IS READ IS A WORD
  pub read : (at : ℕ) (s : List ℕ) → Read A at s (r at s)
  read at s = go (r at s) (verdict at s)
    where
      go : (o : Out X) → Verdict (Then A pinned at) at s (finish o pinned_r) → Read A at s o
      go (ok v a t) (takes _ x u) = read_ok (word_of x)
      go (soft p v a t) (takes _ x u) = read_soft (word_of x)
      go (bad p) (stops _ f z) = read_bad p (λ v a t x. z _ (record { value = v; next = a; rest = t; first = x; others = refl }))

  pub word_read : (at : ℕ) (s : List ℕ) (v : X) (a : ℕ) (t : List ℕ) → r at s ≡ ok v a t → A at s v a t
  word_read at s v a t h = go (subst (Read A at s) h (read at s))
    where
      go : Read A at s (ok v a t) → A at s v a t
      go (read_ok x) = x

  -- NO WORD BEGINS SO: then it is refused before the end of that
  pub early_bad : (m at : ℕ) (s : List ℕ) → ((more : List ℕ) (v : X) (a : ℕ) (t : List ℕ) → A at (take (suc m) s ++ more) v a t → ⊥) → (p : ℕ) × (r at s ≡ bad p) × (p ≤ at + m)
  early_bad m at s dead = go (r at s) refl (verdict at s)
    where
      whole : (v : X) (a : ℕ) (t : List ℕ) → A at s v a t → ⊥
      whole v a t x = dead (drop (suc m) s) v a t (subst (λ (l : List ℕ). A at l v a t) (sym (take-append-drop (suc m) s)) x)

      begins : (n : ℕ) → suc m ≤ n → Begins (Then A pinned at) (take n s) → ⊥
      begins n l b =
          let c = less (suc m) n s l b in
          dead c.more c.word.value c.word.next c.word.rest c.word.first

      far : {p : ℕ} → Far (Then A pinned at) at s p → p ≤ at + m
      far {p} f = by (dec_le (suc m) f.n)
        where
          by : Dec (suc m ≤ f.n) → p ≤ at + m
          by (yes l) = absurd (begins f.n l f.viable)
          by (no l) = omega (arith, f.here)

      go : (o : Out X) → r at s ≡ o → Verdict (Then A pinned at) at s (finish o pinned_r) → (p : ℕ) × (r at s ≡ bad p) × (p ≤ at + m)
      go (ok v a t) h (takes _ x u) = absurd (whole _ _ _ (word_of x))
      go (soft p v a t) h (takes _ x u) = absurd (whole _ _ _ (word_of x))
      go (bad p) h (stops _ f z) = (p, h, far f)

  -- a word is a part of the text
  pub word_moves : (at : ℕ) (s : List ℕ) (v : X) (a : ℕ) (t : List ℕ) → A at s v a t → Moves d at s a t
  word_moves at s v a t x = go (e.moves.tame at s) (verdict at s)
    where
      y : Then A pinned at s (record { value = v; place = a; left = t })
      y = record { value = v; next = a; rest = t; first = x; others = refl }

      here : (w : Spot X) → Moves d at s w.place w.left → ((w' : Spot X) → Then A pinned at s w' → w' ≡ w) → Moves d at s a t
      here w m u = subst (λ (z : Spot X). Moves d at s z.place z.left) (sym (u _ y)) m

      go : {o : Out X} → Tamed d at s o → Verdict (Then A pinned at) at s (finish o pinned_r) → Moves d at s a t
      go (t_ok m) (takes w z u) = here w m u
      go (t_soft p m l) (takes w z u) = here w m u
      go (t_bad p l m) (stops _ f z) = absurd (z _ y)

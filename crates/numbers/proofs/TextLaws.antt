-- Laws of the text of a number: what is stored without spaces, without leading zeros, and with its sign. Assumes nothing.
use mathlib.Core.Path.{◌≡◌, refl, sym, ap, ◌∙◌}
use mathlib.Core.List.{List, [], ◌∷◌, ◌++◌}
use mathlib.Core.Logic.{◌⊎◌, inl, inr}
use mathlib.Core.Bool.{Bool, true, false}
use Prim.Native.Nat.{ℕ, suc, ◌+◌, ◌-◌, ◌≤◌, ◌<◌}
use native.Mathlib.Nat.{add-zero}
use native.Mathlib.Numerals.{add-one}
use native.Mathlib.Omega.{arith}
use lib.ListN.{length, get_or, set, length-append}
use lib.Seq.{sets, length-sets, slice, slice-cons, slice_empty, length-slice}
use lib.Dec.{eqb}
use borrow.Author.Rules.{rules}
use borrow.Author.Tests.{eq-eqb, ne_eqb, eqb-true}
use Rattle.exact.specs.Class.{or, or_of, clash}
use Rattle.exact.specs.Place.{get_d_any}
use Rattle.rooms.specs.Stores.{sets_append}
use Rattle.language.specs.Scalars.{plain}
use Rattle.numbers.specs.Places.{squeezed}
use Rattle.numbers.specs.Contract.{Storing, Dense, Stored, Whole, Nonzero}
use Rattle.numbers.proofs.SqueezeLaws.{squeezed_append, squeezed_le, squeeze_join}

-- ONE BYTE
module _ (T : List ℕ) (x b : ℕ) where
  pub solid_space : b ≡ 32 → Stored T T x x (squeezed (b ∷ []))
  unfolding squeezed
  solid_space e = rw (eq-eqb b 32 e) (record { end = sym (add-zero x); room = refl })

  pub solid_byte : (T' : List ℕ) → (b ≡ 32 → ⊥) → T' ≡ set T x b → Stored T T' x (x + 1) (squeezed (b ∷ []))
  unfolding squeezed
  solid_byte T' n h = rw (ne_eqb b 32 n) (record { end = refl; room = h })

-- MANY: what is still to be stored from i on
pub record Squeezing (doc : List ℕ) (a e x : ℕ) (T₀ T : List ℕ) (to i : ℕ) : Type 0 where
  pub ahead : a ≤ i
  pub within : i ≤ e
  pub bound : to + a ≤ x + i
  pub count : to + length (squeezed (slice i e doc)) ≡ x + length (squeezed (slice a e doc))
  pub room : sets T₀ x (squeezed (slice a e doc)) ≡ sets T to (squeezed (slice i e doc))
  pub kept : length T ≡ length T₀

module _ (doc : List ℕ) (a e x : ℕ) (T₀ : List ℕ) (p : Storing doc a e x) where
  pub squeezing_first : Squeezing doc a e x T₀ T₀ x a
  squeezing_first = record { ahead = omega arith; within = p.ahead; bound = omega arith; count = refl; room = refl; kept = refl }

  module _ (T : List ℕ) (to i : ℕ) (q : Squeezing doc a e x T₀ T to i) where
    pub squeezing_turn : (T' : List ℕ) (r : ℕ) → i < e → Stored T T' to r (squeezed (get_or doc i 0 ∷ [])) → Squeezing doc a e x T₀ T' r (i + 1)
    squeezing_turn T' r l s =
        let u = squeezed (get_or doc i 0 ∷ []) in
        let v = squeezed (slice (i + 1) e doc) in
        let j : squeezed (slice i e doc) ≡ u ++ v =
        ap squeezed (slice-cons i e doc 0 l p.inside) ∙ rw add-one (squeezed_append (get_or doc i 0 ∷ []) (slice (suc i) e doc)) in
        let m : length (squeezed (slice i e doc)) ≡ length u + length v = ap length j ∙ length-append u v in
        let n : length u ≤ 1 = squeezed_le (get_or doc i 0 ∷ []) in
        record {
          ahead = omega (arith, q.ahead);
          within = omega arith;
          bound = omega (arith, q.bound, s.end);
          count = omega (arith, q.count, s.end);
          room = q.room ∙ (ap (sets T to) j ∙ (sets_append T to u v ∙ (ap (λ k. sets (sets T to u) k v) (sym s.end) ∙ ap (λ k. sets k r v) (sym s.room))));
          kept = ap length s.room ∙ (length-sets T to u ∙ q.kept);
        }

    pub squeezing_done : e ≤ i → Stored T₀ T x to (squeezed (slice a e doc))
    unfolding squeezed
    squeezing_done l =
        let z : i ≡ e = omega (arith, q.within) in
        let n : squeezed (slice i e doc) ≡ [] = rw (z, slice_empty e doc) refl in
        record { end = omega (arith, q.count, ap length n); room = sym (q.room ∙ ap (sets T to) n) }

pub ruleset squeeze_laws = (solid_space, solid_byte, squeezing_first, squeezing_turn, squeezing_done, rules)

-- IN ONE RUN
pub store_dense : (doc : List ℕ) (a e x : ℕ) (dense : Bool) (T T' : List ℕ) → Storing doc a e x → Dense doc a e dense → dense ≡ true → T' ≡ sets T x (slice a e doc)
    → Stored T T' x (x + (e - a)) (squeezed (slice a e doc))
store_dense doc a e x dense T T' p d h r =
    let t : squeezed (slice a e doc) ≡ slice a e doc = d.tight h in
    let l : length (slice a e doc) ≡ e - a = length-slice a e doc p.inside in
    record { end = rw t (omega arith); room = rw t r }

pub ruleset store_laws = (store_dense, rules)

-- WITHOUT LEADING ZEROS
plain_zero : (s : List ℕ) → (s ≡ [] → ⊥) → plain (48 ∷ s) ≡ plain s
unfolding plain
plain_zero [] n = absurd (n refl)
plain_zero (b ∷ s) n = refl

plain_other : (b : ℕ) (s : List ℕ) → (b ≡ 48 → ⊥) → plain (b ∷ s) ≡ b ∷ s
unfolding plain
plain_other b [] n = refl
plain_other b (c ∷ s) n = rw (ne_eqb b 48 n) refl

plain_one : (b : ℕ) → plain (b ∷ []) ≡ b ∷ []
unfolding plain
plain_one b = refl

append_some : (u : List ℕ) (b : ℕ) → u ++ (b ∷ []) ≡ [] → ⊥
append_some u b e = let l : length u + 1 ≡ 0 = sym (length-append u (b ∷ [])) ∙ ap length e in omega arith

-- the loop that skips stands at z
pub record Skipping (doc : List ℕ) (d e z : ℕ) : Type 0 where
  pub ahead : d ≤ z
  pub inside : z < e
  pub plainly : plain (squeezed (slice d e doc)) ≡ plain (squeezed (slice z e doc))

module _ (doc : List ℕ) (d e : ℕ) (w : Whole doc d e) where
  abbrev at₀ : ℕ → ℕ
  at₀ z = get_or doc z 0

  squeeze_cons : (z : ℕ) → z < e → (at₀ z ≡ 32 → ⊥) → squeezed (slice z e doc) ≡ at₀ z ∷ squeezed (slice (z + 1) e doc)
  unfolding squeezed
  squeeze_cons z l n = ap squeezed (slice-cons z e doc 0 l w.inside) ∙ rw (ne_eqb (at₀ z) 32 n, add-one) refl

  squeeze_space : (z : ℕ) → z < e → at₀ z ≡ 32 → squeezed (slice z e doc) ≡ squeezed (slice (z + 1) e doc)
  unfolding squeezed
  squeeze_space z l n = ap squeezed (slice-cons z e doc 0 l w.inside) ∙ rw (eq-eqb (at₀ z) 32 n, add-one) refl

  last_solid : at₀ (e - 1) ≡ 32 → ⊥
  last_solid h = w.last (sym (get_d_any doc (e - 1) 0 256 (omega (arith, w.some, w.inside))) ∙ h)

  -- the last byte is one that stays
  last_one : squeezed (slice (e - 1) e doc) ≡ at₀ (e - 1) ∷ []
  unfolding squeezed
  last_one =
      let k : e - 1 + 1 ≡ e = omega (arith, w.some) in
      squeeze_cons (e - 1) (omega (arith, w.some)) last_solid ∙ rw (k, slice_empty e doc) refl

  some_left : (z : ℕ) → z ≤ e - 1 → squeezed (slice z e doc) ≡ [] → ⊥
  some_left z l h =
      append_some (squeezed (slice z (e - 1) doc)) (at₀ (e - 1)) (ap (λ u. squeezed (slice z (e - 1) doc) ++ u) (sym last_one) ∙ (squeeze_join doc z (e - 1) e l (omega arith) ∙ h))

  pub skipping_first : Skipping doc d e d
  skipping_first = record { ahead = omega arith; inside = w.some; plainly = refl }

  module _ (z : ℕ) (s : Skipping doc d e z) (r : Bool) (h : r ≡ or (eqb (at₀ z) 48) (eqb (at₀ z) 32)) where
    pub skipping_more : z < e - 1 → r ≡ true → Skipping doc d e (z + 1)
    skipping_more l t = record { ahead = omega (arith, s.ahead); inside = omega arith; plainly = s.plainly ∙ go (or_of (eqb (at₀ z) 48) (eqb (at₀ z) 32) (sym h ∙ t)) }
      where
        go : (eqb (at₀ z) 48 ≡ true) ⊎ (eqb (at₀ z) 32 ≡ true) → plain (squeezed (slice z e doc)) ≡ plain (squeezed (slice (z + 1) e doc))
        go (inl k) =
            let b = eqb-true (at₀ z) 48 k in
            ap plain (squeeze_cons z s.inside (λ y. omega arith)) ∙ rw b (plain_zero (squeezed (slice (z + 1) e doc)) (some_left (z + 1) (omega arith)))
        go (inr k) = ap plain (squeeze_space z s.inside (eqb-true (at₀ z) 32 k))

    pub skipping_stop : r ≡ false → Nonzero doc d e z
    skipping_stop t = record { ahead = s.ahead; inside = s.inside; plainly = s.plainly ∙ (rw c (plain_other (at₀ z) (squeezed (slice (z + 1) e doc)) no_zero)); solid = no_space }
      where
        no_zero : at₀ z ≡ 48 → ⊥
        no_zero k = clash (rw (eq-eqb (at₀ z) 48 k) refl) (sym h ∙ t)

        no_space : at₀ z ≡ 32 → ⊥
        no_space k = clash (rw (eq-eqb (at₀ z) 32 k) (or_true (eqb (at₀ z) 48))) (sym h ∙ t)
          where
            or_true : (x : Bool) → or x true ≡ true
            or_true true = refl
            or_true false = refl

        c : squeezed (slice z e doc) ≡ at₀ z ∷ squeezed (slice (z + 1) e doc)
        c = squeeze_cons z s.inside no_space

  pub skipping_end : (z : ℕ) → Skipping doc d e z → e - 1 ≤ z → Nonzero doc d e z
  skipping_end z s l =
      let k : z ≡ e - 1 = omega (arith, s.inside) in
      record { ahead = s.ahead; inside = s.inside; plainly = s.plainly ∙ rw (k, last_one) (plain_one (at₀ (e - 1))); solid = rw k last_solid }

pub skipped_zero : (b : ℕ) → b ≡ 48 → true ≡ or (eqb b 48) (eqb b 32)
skipped_zero b h = rw (eq-eqb b 48 h) refl

pub skipped_other : (b : ℕ) → (b ≡ 48 → ⊥) → eqb b 32 ≡ or (eqb b 48) (eqb b 32)
skipped_other b h = rw (ne_eqb b 48 h) refl

pub ruleset skip_laws = (skipping_first, skipping_more, skipping_stop, skipping_end, skipped_zero, skipped_other, rules)

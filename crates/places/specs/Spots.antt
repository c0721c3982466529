-- KEYS FOUND AGAIN by the words of a log: each stands at its place, the next one behind it, and the list of them is that of the log. Assumes nothing.
use Rattle.std.specs.Prelude.{◌≡◌, ℕ, suc, ◌<◌, ◌≤◌, List, [], ◌∷◌}
use Rattle.std.proofs.Common.{sym, ap, subst, ◌∙◌, arith}
use Rattle.std.proofs.Math.Decide.{ℕ_discrete}
use Rattle.notes.specs.Flat.{Named, named}
use Rattle.notes.specs.Lie.{KeyAt, Keys, keys_more}
use Rattle.repeats.specs.Twice.{Lists, lists_none, lists_key}
use Rattle.places.specs.Places.{object_at, place_at, object_is, place_is, spelled, ends, key_text, key_end, key_own, place_keys}
use Rattle.places.specs.Words.{Words, words_none, words_more}

module _ (doc keys : List ℕ) (e z : ℕ) where
  pub lists_words : (j b : ℕ) (ns : List Named) → Words keys e j ns → Keys doc b ns z → Lists (place_keys doc keys) e j ns
  lists_words j b [] words_none k = lists_none
  lists_words j b (named q a s ∷ ns) (words_more u v x) (keys_more {m = m} h k y) =
      let o = sym (object_is keys j q (sym u)) in
      let p = sym (place_is keys j a (sym v)) in
      let t : spelled doc (place_at keys j) ≡ s = ap (spelled doc) p ∙ key_text doc a m s k in
      let r : Lists (place_keys doc keys) e j (named (object_at keys j) (place_at keys j) (spelled doc (place_at keys j)) ∷ ns) =
      lists_key tt (lists_words (suc j) m ns x y) in
      rw (o, t, p) at r

  -- the key of a word, not before b
  pub record Spot (b i : ℕ) : Type 0 where
    pub from : b ≤ place_at keys i
    pub key : KeyAt doc (place_at keys i) (spelled doc (place_at keys i)) (ends doc (place_at keys i))

  spot_here : (j b a m : ℕ) (s : List ℕ) → place_at keys j ≡ a → b ≤ a → KeyAt doc a s m → Spot b j
  spot_here j b a m s p h k = record { from = omega arith; key = rw p (key_own doc a m s k) }

  pub spots : (j b : ℕ) (ns : List Named) → Words keys e j ns → Keys doc b ns z → (i : ℕ) → j ≤ i → i < e → Spot b i
  spots j b [] words_none k i g f = absurd (omega arith)
  spots j b (named q a s ∷ ns) (words_more o v x) (keys_more {m = m} h k y) i g f =
      by (ℕ_discrete i j) (λ u. spots (suc j) m ns x y i u f)
    where
      by : Dec (i ≡ j) → (suc j ≤ i → Spot m i) → Spot b i
      by (yes d) r = subst (Spot b) (sym d) (spot_here j b a m s (sym (place_is keys j a (sym v))) h k)
      by (no d) r = let v = r (omega arith) in record { from = omega (arith, v.from, k.ahead); key = v.key }

  pub spots_order : (j b : ℕ) (ns : List Named) → Words keys e j ns → Keys doc b ns z → (k i : ℕ) → j ≤ k → k < i → i < e → ends doc (place_at keys k) ≤ place_at keys i
  spots_order j b [] words_none y k i g h f = absurd (omega arith)
  spots_order j b (named q a s ∷ ns) (words_more o w x) (keys_more {m = m} l c y) k i g h f =
      by
      (ℕ_discrete k j)
      (λ u. spots_order (suc j) m ns x y k i u h f)
      (λ u. (spots (suc j) m ns x y i u f).from)
    where
      by : Dec (k ≡ j) → (suc j ≤ k → ends doc (place_at keys k) ≤ place_at keys i) → (suc j ≤ i → m ≤ place_at keys i) → ends doc (place_at keys k) ≤ place_at keys i
      by (yes d) r v =
          let u : place_at keys k ≡ a = ap (place_at keys) d ∙ sym (place_is keys j a (sym w)) in
          let t : ends doc (place_at keys k) ≡ m = ap (ends doc) u ∙ key_end doc a m s c in
          omega (arith, v (omega arith))
      by (no d) r v = r (omega arith)

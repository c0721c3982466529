-- THE KEYS IN A LIST (`Lists`): a key that is the same as an earlier one is one that the list names twice, and back. Assumes nothing.
use Rattle.std.specs.Prelude.{◌≡◌, refl, List, [], ◌∷◌, ℕ, suc, ◌≤◌, ◌<◌}
use Rattle.std.proofs.Common.{sym, subst, arith}
use Rattle.std.proofs.Math.Decide.{ℕ_discrete}
use Rattle.repeats.specs.Flat.{Named, named, In, in_here, in_later}
use Rattle.repeats.specs.Numbering.{Numbering, Same}

-- the list of the keys from i up to e
pub data Lists (N : Numbering) (e : ℕ) : ℕ → List Named → Type 0 where
  lists_none : Lists N e e []
  lists_key : {i : ℕ} {ns : List Named} → N.Key i → Lists N e (suc i) ns → Lists N e i (named (N.object i) (N.start i) (N.text i) ∷ ns)
  lists_other : {i : ℕ} {ns : List Named} → (N.Key i → ⊥) → Lists N e (suc i) ns → Lists N e i ns

module _ (N : Numbering) (e : ℕ) where
  -- a key of the list
  pub record Held (i q a : ℕ) (s : List ℕ) : Type 0 where
    pub number : ℕ
    pub least : i ≤ number
    pub most : number < e
    pub key : N.Key number
    pub object : q ≡ N.object number
    pub starts : a ≡ N.start number
    pub is : s ≡ N.text number

  lists_le : {i : ℕ} {ns : List Named} → Lists N e i ns → i ≤ e
  lists_le lists_none = omega arith
  lists_le (lists_key k x) = let h = lists_le x in omega arith
  lists_le (lists_other k x) = let h = lists_le x in omega arith

  held_later : {i q a : ℕ} {s : List ℕ} → Held (suc i) q a s → Held i q a s
  held_later h = record { number = h.number; least = omega (arith, h.least); most = h.most; key = h.key; object = h.object; starts = h.starts; is = h.is }

  pub in_held : (i : ℕ) (ns : List Named) {q a : ℕ} {s : List ℕ} → Lists N e i ns → In q a s ns → Held i q a s
  in_held i ns lists_none x = elim x [ ]
  in_held i ns (lists_key k y) in_here =
      record { number = i; least = omega arith; most = (let h = lists_le y in omega arith); key = k; object = refl; starts = refl; is = refl }
  in_held i ns (lists_key k y) (in_later x) = held_later (in_held (suc i) _ y x)
  in_held i ns (lists_other k y) x = held_later (in_held (suc i) _ y x)

  pub held_in : (i : ℕ) (ns : List Named) → Lists N e i ns → (k : ℕ) → i ≤ k → k < e → N.Key k → In (N.object k) (N.start k) (N.text k) ns
  held_in i ns lists_none k l m h = absurd (omega arith)
  held_in i ns (lists_key {ns = ms} z y) k l m h = by (ℕ_discrete i k) (λ a b c. held_in (suc i) ms y k a b c)
    where
      by : Dec (i ≡ k) → (suc i ≤ k → k < e → N.Key k → In (N.object k) (N.start k) (N.text k) ms)
          → In (N.object k) (N.start k) (N.text k) (named (N.object i) (N.start i) (N.text i) ∷ ms)
      by (yes g) f = rw g in_here
      by (no g) f = in_later (f (omega arith) m h)
  held_in i ns (lists_other z y) k l m h =
      let g : i ≡ k → ⊥ = λ g. z (subst N.Key (sym g) h) in
      held_in (suc i) ns y k (omega (arith, g)) m h

  -- two keys from i on are the same, and the later starts at p
  pub record Pair (i p : ℕ) : Type 0 where
    pub one : ℕ
    pub two : ℕ
    pub least : i ≤ one
    pub between : one < two
    pub most : two < e
    pub one_key : N.Key one
    pub two_key : N.Key two
    pub starts : N.start two ≡ p
    pub same : Same N two one

  pub pair_from : {p : ℕ} (i j : ℕ) (x : Pair i p) → j ≤ x.one → Pair j p
  pair_from i j x l =
      record {
        one = x.one;
        two = x.two;
        least = l;
        between = x.between;
        most = x.most;
        one_key = x.one_key;
        two_key = x.two_key;
        starts = x.starts;
        same = x.same;
      }

  pub pair_later : {p : ℕ} (i : ℕ) → Pair (suc i) p → Pair i p
  pair_later i x = pair_from (suc i) i x (omega (arith, x.least))

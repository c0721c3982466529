-- THE KEYS IN A LIST (`Lists`): a key that is the same as an earlier one is one that the list names twice, and back. Assumes nothing.
use Rattle.std.specs.Prelude.{◌≡◌, List, ◌∷◌, ℕ, suc}
use Rattle.std.proofs.Common.{sym, ap, subst, ◌∙◌, arith}
use Rattle.std.proofs.Math.Decide.{ℕ_discrete}
use Rattle.repeats.specs.Flat.{Named, named, In, Twice, twice_here, twice_later}
use Rattle.repeats.specs.Numbering.{Numbering}
use Rattle.repeats.specs.Later.{Later}
use Rattle.repeats.specs.Twice.{Lists, Pair, held_in, in_held, lists_key, lists_none, lists_other, pair_from, pair_later}

module _ (N : Numbering) (e : ℕ) where
  twice_pair : (i : ℕ) (ns : List Named) {p : ℕ} → Lists N e i ns → Twice p ns → (Pair N e) i p
  twice_pair i ns lists_none x = elim x [ ]
  twice_pair i ns (lists_key k y) (twice_here x) =
      let v = (in_held N e) (suc i) _ y x in
      record {
        one = i;
        two = v.number;
        least = omega arith;
        between = omega (arith, v.least);
        most = v.most;
        one_key = k;
        two_key = v.key;
        starts = sym v.starts;
        same = record { objects = sym v.object; texts = sym v.is };
      }
  twice_pair i ns (lists_key k y) (twice_later x) = (pair_later N e) i (twice_pair (suc i) _ y x)
  twice_pair i ns (lists_other k y) x = (pair_later N e) i (twice_pair (suc i) _ y x)

  pair_twice : (i : ℕ) (ns : List Named) {p : ℕ} → Lists N e i ns → (Pair N e) i p → Twice p ns
  pair_twice i ns lists_none x = absurd (omega (arith, x.least, x.between, x.most))
  pair_twice i ns {p} (lists_key {ns = ms} z y) x = by (ℕ_discrete x.one i) (λ w. pair_twice (suc i) ms y w)
    where
      by : Dec (x.one ≡ i) → ((Pair N e) (suc i) p → Twice p ms) → Twice p (named (N.object i) (N.start i) (N.text i) ∷ ms)
      by (yes h) f =
          let o : N.object x.two ≡ N.object i = x.same.objects ∙ ap N.object h in
          let s : N.text x.two ≡ N.text i = x.same.texts ∙ ap N.text h in
          let v = (held_in N e) (suc i) ms y x.two (omega (arith, x.between)) x.most x.two_key in
          let w : In (N.object i) p (N.text i) ms = rw (o, s, x.starts) at v in
          twice_here w
      by (no h) f = twice_later (f ((pair_from N e) i (suc i) x (omega (arith, x.least))))
  pair_twice i ns (lists_other z y) x =
      pair_twice (suc i) ns y ((pair_from N e) i (suc i) x (let h : x.one ≡ i → ⊥ = λ g. z (subst N.Key g x.one_key) in omega (arith, x.least)))

-- where the list is that of all keys
module _ (N : Numbering) (n : ℕ) (ns : List Named) (l : Lists N n 0 ns) (p : ℕ) where
  pub later_twice : Later N n p → Twice p ns
  later_twice x =
      let e = x.earlier in
      pair_twice
      N
      n
      0
      ns
      l
      (record {
        one = e.other;
        two = x.number;
        least = omega arith;
        between = e.key.before;
        most = x.key.before;
        one_key = e.key.key;
        two_key = x.key.key;
        starts = x.starts;
        same = e.same;
      })

  pub twice_later_key : Twice p ns → Later N n p
  twice_later_key x =
      let h = twice_pair N n 0 ns l x in
      record {
        number = h.two;
        key = record { before = h.most; key = h.two_key };
        starts = h.starts;
        earlier = record { other = h.one; key = record { before = h.between; key = h.one_key }; same = h.same };
      }

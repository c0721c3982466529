-- LISTS OF KEYS THAT ARE CUT: a key named twice before a cut, and, where keys stand one behind another, the first of those before it is the first of all. Assumes nothing.
use Rattle.std.specs.Prelude.{◌≡◌, refl, List, [], ◌∷◌, ◌++◌, ℕ, zero, suc, ◌+◌, ◌≤◌, ◌<◌, length, take, drop}
use Rattle.std.proofs.Common.{sym, ap, subst, ◌∙◌, append-nil, zero-add, suc-add, arith, take-append-drop}
use Rattle.std.proofs.Math.Seq.{take-nil, drop-nil}
use Rattle.language.specs.Tree.{count}
use Rattle.language.specs.Answered.{limit}
use Rattle.notes.specs.Flat.{Named}
use Rattle.notes.specs.Lie.{Keys, keys_more}
use Rattle.repeats.specs.Flat.{In, in_here, in_later, in_right, Twice, twice_here, twice_later, twice_left, Split, in_first, in_second, across, twice_split}
use Rattle.repeats.specs.Later.{LeastOf}
use Rattle.places.specs.Chosen.{count_none}

-- ---- keys twice, in a list that is cut

pub twice_across : {q a p : ℕ} {s : List ℕ} (xs ys : List Named) → In q a s xs → In q p s ys → Twice p (xs ++ ys)
twice_across {q = q} {a = a} {p = p} {s = s} [] ys x'' y = elim x'' [ ]
twice_across (_ ∷ xs) ys in_here y = twice_here (in_right xs ys y)
twice_across (_ ∷ xs) ys (in_later x) y = twice_later (twice_across xs ys x y)

pub take-add : (j h : ℕ) (ks : List Named) → take (j + h) ks ≡ take j ks ++ take h (drop j ks)
take-add zero h ks = ap (λ (n : ℕ). take n ks) (zero-add h)
take-add (suc j) h [] = rw (suc-add j h, take-nil {A = Named} h) refl
take-add (suc j) h (k ∷ ks) = rw (suc-add j h) (ap (λ (x : List Named). k ∷ x) (take-add j h ks))

-- where nothing is behind, the cut is the whole
pub take_whole : (j h : ℕ) (ks : List Named) → count (drop h (drop j ks)) ≡ 0 → take (j + h) ks ≡ ks
take_whole j h ks e =
    let n = count_none (drop h (drop j ks)) e in
    let y = take-append-drop h (drop j ks) in
    let z : take h (drop j ks) ≡ drop j ks = sym (append-nil (take h (drop j ks))) ∙ (rw n at y) in
    take-add j h ks ∙ rw z (take-append-drop j ks)

-- something behind: so many there are
pub drop_count : (n : ℕ) (ks : List Named) → 0 < count (drop n ks) → n < count ks
drop_count zero ks l = l
drop_count (suc n) [] l = absurd (omega arith)
drop_count (suc n) (k ∷ ks) l = let h = drop_count n ks l in omega arith

pub drops_count : (j h : ℕ) (ks : List Named) → 0 < count (drop h (drop j ks)) → j + h < count ks
drops_count zero h ks l = let x = drop_count h ks l in omega arith
drops_count (suc j) h [] l = absurd (omega (arith, ap count (drop-nil {A = Named} h)))
drops_count (suc j) h (k ∷ ks) l = let x = drops_count j h ks l in omega arith

-- the place of a key named twice
pub record Somewhere (p : ℕ) (xs : List Named) : Type 0 where
  pub object : ℕ
  pub text : List ℕ
  pub is : In object p text xs

pub twice_in : {p : ℕ} {xs : List Named} → Twice p xs → Somewhere p xs
twice_in (twice_here {q = q} {s = s} x) = record { object = q; text = s; is = in_later x }
twice_in (twice_later x) = let y = twice_in x in record { object = y.object; text = y.text; is = in_later y.is }

-- ---- keys that stand in a document one behind another

pub in_from : {doc : List ℕ} {a e q p : ℕ} {s : List ℕ} {ns : List Named} → Keys doc a ns e → In q p s ns → a ≤ p
in_from {doc = doc} {q = q} {p = p} {s = s} (Rattle.named.specs.Lie.keys_none {a = a} {e = e} _) x6 = elim x6 [ ]
in_from (keys_more h k y) in_here = h
in_from (keys_more h k y) (in_later i) = let z = in_from y i in omega (arith, k.ahead)

pub in_inside : {doc : List ℕ} {a e q p : ℕ} {s : List ℕ} {ns : List Named} → Keys doc a ns e → In q p s ns → p < length doc
in_inside {doc = doc} {q = q} {p = p} {s = s} (Rattle.named.specs.Lie.keys_none {a = a} {e = e} _) x6 = elim x6 [ ]
in_inside (keys_more h k y) in_here = omega (arith, k.ahead, k.inside)
in_inside (keys_more h k y) (in_later i) = in_inside y i

pub in_order : {doc : List ℕ} {a e q p r b : ℕ} {s t : List ℕ} (xs ys : List Named) → Keys doc a (xs ++ ys) e → In q p s xs → In r b t ys → p < b
in_order {doc = doc} {a = a} {e = e} {q = q} {p = p} {r = r} {b = b} {s = s} {t = t} [] ys _ x4 j = elim x4 [ ]
in_order (_ ∷ xs) ys (keys_more h k y) in_here j = let z = in_from y (in_right xs ys j) in omega (arith, k.ahead)
in_order (_ ∷ xs) ys (keys_more h k y) (in_later i) j = in_order xs ys y i j

module _ (doc : List ℕ) (ks : List Named) (lie : Keys doc 0 ks (length doc)) (short : length doc ≤ limit) where
  pub twice_low : {p : ℕ} → Twice p ks → p < limit
  twice_low x = omega (arith, in_inside lie (twice_in x).is)

  -- the first of the keys before a cut is the first of all
  pub prefix_least : (n p : ℕ) → Twice p (take n ks) → ((q : ℕ) → Twice q (take n ks) → p ≤ q) → LeastOf (λ q. Twice q ks) p
  prefix_least n p x f =
      record {
        is = subst (Twice p) (take-append-drop n ks) (twice_left (take n ks) (drop n ks) x);
        least = λ q y. by q (twice_split (take n ks) (drop n ks) (subst (Twice q) (sym (take-append-drop n ks)) y));
      }
    where
      cut : Keys doc 0 (take n ks ++ drop n ks) (length doc)
      cut = rw (take-append-drop n ks) lie

      by : (q : ℕ) → Split q (take n ks) (drop n ks) → p ≤ q
      by q (in_first y) = f q y
      by q (in_second y) = let z = in_order (take n ks) (drop n ks) cut (twice_in x).is (twice_in y).is in omega arith
      by q (across r a s y w) = let z = in_order (take n ks) (drop n ks) cut (twice_in x).is w in omega arith

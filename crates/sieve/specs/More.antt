-- ONE KEY MORE in the sieve: of an object whose list is known, the first of an object, and one of an object that is not known. Assumes nothing.
use Rattle.std.specs.Prelude.{◌≡◌, List, ◌∷◌, ℕ, ◌+◌, ◌/◌, ◌≤◌, ◌<◌, length, get_or, set}
use Rattle.std.proofs.Common.{sym, ap, subst, ◌∙◌, inl, inr, add-zero, arith, length-set, get_or-set_same, get_or-set_other}
use Rattle.std.proofs.Math.Decide.{ℕ_discrete}
use Rattle.sieve.specs.Bits.{On, Sets, on_same}
use Rattle.sieve.specs.Sieve.{hits, top, broken, list_at, lists, seen, again, large, class_of, class_low, Mark, mark, Has, has_here, has_later, Double, double_here, double_later, Near, Noted, Whole, Steps, Flags, flag_framed, flag_noted, flag_whole, flag_found}

-- ---- one key more of an object whose list is known

module _ (zs : List Mark) (S : List ℕ) (q h d : ℕ) (l : d < lists) (e : get_or S (list_at d) 0 ≡ q + 1) where
  -- where it is noted
  add_whole : Whole zs S → Noted S d h → Whole (mark q h ∷ zs) S
  add_whole w n = record { low = low; below = w.below; apart = w.apart; few = w.few; noted = noted }
    where
      low : (p g : ℕ) → Has p g (mark q h ∷ zs) → p < get_or S top 0
      low p g has_here = omega (arith, w.below d l)
      low p g (has_later i) = w.low p g i

      noted : (c p g : ℕ) → c < lists → Has p g (mark q h ∷ zs) → get_or S (list_at c) 0 ≡ p + 1 → Noted S c g
      noted c p g m has_here f = let z = w.apart d c l m (e ∙ sym f) (omega arith) in subst (λ (i : ℕ). Noted S i h) z n
      noted c p g m (has_later i) f = w.noted c p g m i f

  -- it has not come before where it is not noted
  add_new : Whole zs S → (Noted S d h → ⊥) → (p g : ℕ) → Double p g (mark q h ∷ zs) → Double p g zs
  add_new w n p g (double_here i) = absurd (n (w.noted d q h l i e))
  add_new w n p g (double_later i) = i

-- found again
pub own_flagged : (S S' : List ℕ) (q h d : ℕ) → d < lists → get_or S (list_at d) 0 ≡ q + 1 → get_or S broken 0 ≡ 0 → Noted S d h → Flags S (class_of h) S' → Steps S q h S'
own_flagged S S' q h d l e b n x =
    record {
      framed = flag_framed x;
      sieved = λ zs s.
          let w = flag_whole x (s.whole b) in
          let o = x.between (list_at d) (omega arith) (omega arith) in
          record {
            found = flag_found zs S S' q h x s.found;
            whole = λ c. add_whole zs S' q h d l (o ∙ e) w (flag_noted x d h l ((s.whole b).few d l) n);
            plain = λ c. let z = x.between broken (omega arith) (omega arith) in absurd (omega arith);
          };
    }

-- a bit of the first run is set
module _ (S S' : List ℕ) (h : ℕ) (x : Sets S seen (class_of h) S') where
  far : (i : ℕ) → i < seen → get_or S' i 0 ≡ get_or S i 0
  far i l = x.other i (λ e. omega arith)

  beyond : (i : ℕ) → again ≤ i → get_or S' i 0 ≡ get_or S i 0
  beyond i l = let m = class_low h in x.other i (λ e. omega arith)

  set_noted : (d g : ℕ) → d < lists → get_or S (list_at d + 1) 0 ≤ 16 → Noted S d g → Noted S' d g
  set_noted d g l f (inl n) =
      inl
      (record {
        number = n.number;
        low = (let e = far (list_at d + 1) (omega arith) in omega (arith, n.low));
        is = far (list_at d + 2 + n.number) (omega (arith, n.low)) ∙ n.is;
      })
  set_noted d g l f (inr o) = inr (x.keeps seen (class_of g) o)

  set_whole : (zs : List Mark) → Whole zs S → Whole zs S'
  set_whole zs w =
      let t = far top (omega arith) in
      let o : (d : ℕ) → d < lists → get_or S' (list_at d) 0 ≡ get_or S (list_at d) 0 = λ d l. far (list_at d) (omega arith) in
      let n : (d : ℕ) → d < lists → get_or S' (list_at d + 1) 0 ≡ get_or S (list_at d + 1) 0 = λ d l. far (list_at d + 1) (omega arith) in
      record {
        low = λ q g i. omega (arith, w.low q g i);
        below = λ d l. omega (arith, o d l, w.below d l);
        apart = λ d e l m f g. w.apart d e l m (sym (o d l) ∙ (f ∙ o e m)) (omega (arith, o d l));
        few = λ d l. omega (arith, n d l, w.few d l);
        noted = λ d q g l i e. set_noted d g l (w.few d l) (w.noted d q g l i (sym (o d l) ∙ e));
      }

  pub own_seen : (q d : ℕ) → d < lists → get_or S (list_at d) 0 ≡ q + 1 → get_or S broken 0 ≡ 0 → (Near S d h → ⊥) → (On S seen (class_of h) → ⊥) → Steps S q h S'
  own_seen q d l e b n m =
      record {
        framed = record { long = x.long; below = λ i v. far i (omega arith); above = λ i v. beyond i (omega arith) };
        sieved = λ zs s.
            record {
              found = λ p g u.
                  let v = s.found p g (add_new zs S q h d l e (s.whole b) neither p g u) in
                  let z = class_low g in
                  (x.keeps again (class_of g) v.0, (let k = far hits (omega arith) in omega (arith, v.1)));
              whole = λ c. add_whole zs S' q h d l (far (list_at d) (omega arith) ∙ e) (set_whole zs (s.whole b)) (inr x.on);
              plain = λ c. let z = far broken (omega arith) in absurd (omega arith);
            };
      }
    where
      neither : Noted S d h → ⊥
      neither (inl k) = n k
      neither (inr k) = m k

-- a hash more in the list of a depth that has n
module _ (S : List ℕ) (h d n : ℕ) (l : d < lists) (long : length S ≡ large) (e : n ≡ get_or S (list_at d + 1) 0) (f : n < 16) where
  abbrev T : List ℕ
  T = set (set S (list_at d + 2 + n) h) (list_at d + 1) (n + 1)

  put_long : length T ≡ length S
  put_long = omega (arith, length-set S (list_at d + 2 + n) h, length-set (set S (list_at d + 2 + n) h) (list_at d + 1) (n + 1))

  put_other : (i : ℕ) → (i ≡ list_at d + 1 → ⊥) → (i ≡ list_at d + 2 + n → ⊥) → get_or T i 0 ≡ get_or S i 0
  put_other i m o = get_or-set_other (set S (list_at d + 2 + n) h) (list_at d + 1) i (n + 1) 0 m ∙ get_or-set_other S (list_at d + 2 + n) i h 0 o

  put_count : get_or T (list_at d + 1) 0 ≡ n + 1
  put_count = get_or-set_same (set S (list_at d + 2 + n) h) (list_at d + 1) (n + 1) 0 (omega (arith, length-set S (list_at d + 2 + n) h))

  put_hash : get_or T (list_at d + 2 + n) 0 ≡ h
  put_hash = get_or-set_other (set S (list_at d + 2 + n) h) (list_at d + 1) (list_at d + 2 + n) (n + 1) 0 (λ z. omega arith) ∙ get_or-set_same S (list_at d + 2 + n) h 0 (omega arith)

  put_on : (base : ℕ) → seen ≤ base → (c : ℕ) → On S base c → On T base c
  put_on base v c o = on_same S T base c (put_other (base + c / 32) (λ z. omega arith) (λ z. omega arith)) o

  -- the words of lists
  put_head : (c : ℕ) → c < lists → get_or T (list_at c) 0 ≡ get_or S (list_at c) 0
  put_head c m = put_other (list_at c) (λ z. omega arith) (λ z. omega arith)

  put_noted : (c g : ℕ) → c < lists → get_or S (list_at c + 1) 0 ≤ 16 → Noted S c g → Noted T c g
  put_noted c g m k (inr o) = inr (put_on seen (omega arith) (class_of g) o)
  put_noted c g m k (inl x) = by (ℕ_discrete c d)
    where
      by : Dec (c ≡ d) → Noted T c g
      by (yes z) =
          let u : get_or S (list_at c + 1) 0 ≡ get_or S (list_at d + 1) 0 = ap (λ (i : ℕ). get_or S (list_at i + 1) 0) z in
          let v : get_or T (list_at c + 1) 0 ≡ n + 1 = ap (λ (i : ℕ). get_or T (list_at i + 1) 0) z ∙ put_count in
          inl
          (record {
            number = x.number;
            low = omega (arith, x.low);
            is = put_other (list_at c + 2 + x.number) (λ y. omega arith) (λ y. omega (arith, x.low)) ∙ x.is;
          })
      by (no z) =
          let v = put_other (list_at c + 1) (λ y. z (omega arith)) (λ y. omega arith) in
          inl
          (record {
            number = x.number;
            low = omega (arith, x.low);
            is = put_other (list_at c + 2 + x.number) (λ y. omega (arith, x.low)) (λ y. z (omega (arith, x.low))) ∙ x.is;
          })

  put_few : (c : ℕ) → c < lists → get_or S (list_at c + 1) 0 ≤ 16 → get_or T (list_at c + 1) 0 ≤ 16
  put_few c m k = by (ℕ_discrete c d)
    where
      by : Dec (c ≡ d) → get_or T (list_at c + 1) 0 ≤ 16
      by (yes z) = let v : get_or T (list_at c + 1) 0 ≡ n + 1 = ap (λ (i : ℕ). get_or T (list_at i + 1) 0) z ∙ put_count in omega arith
      by (no z) = let v = put_other (list_at c + 1) (λ y. z (omega arith)) (λ y. omega arith) in omega arith

  put_whole : (zs : List Mark) → Whole zs S → Whole zs T
  put_whole zs w =
      let t = put_other top (λ z. omega arith) (λ z. omega arith) in
      record {
        low = λ q g i. omega (arith, w.low q g i);
        below = λ c m. omega (arith, put_head c m, w.below c m);
        apart = λ a b m o u v. w.apart a b m o (sym (put_head a m) ∙ (u ∙ put_head b o)) (omega (arith, put_head a m));
        few = λ c m. put_few c m (w.few c m);
        noted = λ c q g m i u. put_noted c g m (w.few c m) (w.noted c q g m i (sym (put_head c m) ∙ u));
      }

  pub own_put : (q : ℕ) → get_or S (list_at d) 0 ≡ q + 1 → get_or S broken 0 ≡ 0 → (Near S d h → ⊥) → (On S seen (class_of h) → ⊥) → Steps S q h T
  own_put q u b x y =
      record {
        framed = record { long = put_long; below = λ i v. put_other i (λ z. omega arith) (λ z. omega arith); above = λ i v. put_other i (λ z. omega arith) (λ z. omega arith) };
        sieved = λ zs s.
            record {
              found = λ p g v.
                  let r = s.found p g (add_new zs S q h d l u (s.whole b) neither p g v) in
                  let k = put_other hits (λ z. omega arith) (λ z. omega arith) in
                  (put_on again (omega arith) (class_of g) r.0, omega (arith, r.1));
              whole = λ c.
                  add_whole zs T q h d l (put_head d l ∙ u) (put_whole zs (s.whole b)) (inl (record { number = n; low = omega (arith, put_count); is = put_hash }));
              plain = λ c. let k = put_other broken (λ z. omega arith) (λ z. omega arith) in absurd (omega arith);
            };
      }
    where
      neither : Noted S d h → ⊥
      neither (inl k) = x k
      neither (inr k) = y k

-- ---- the first key of an object: its list begins anew

module _ (S : List ℕ) (q h d : ℕ) (l : d < lists) (long : length S ≡ large) where
  abbrev F₁ : List ℕ
  F₁ = set S top (q + 1)

  abbrev F₂ : List ℕ
  F₂ = set F₁ (list_at d) (q + 1)

  abbrev F₃ : List ℕ
  F₃ = set F₂ (list_at d + 1) 1

  abbrev F : List ℕ
  F = set F₃ (list_at d + 2) h

  first_long : length F ≡ length S
  first_long = omega (arith, length-set S top (q + 1), length-set F₁ (list_at d) (q + 1), length-set F₂ (list_at d + 1) 1, length-set F₃ (list_at d + 2) h)

  pub first_two : list_at d < length F₁
  first_two = omega (arith, length-set S top (q + 1))

  pub first_three : list_at d + 1 < length F₂
  first_three = omega (arith, length-set S top (q + 1), length-set F₁ (list_at d) (q + 1))

  pub first_four : list_at d + 2 < length F₃
  first_four = omega (arith, length-set S top (q + 1), length-set F₁ (list_at d) (q + 1), length-set F₂ (list_at d + 1) 1)

  first_other : (i : ℕ) → (i ≡ top → ⊥) → (i ≡ list_at d → ⊥) → (i ≡ list_at d + 1 → ⊥) → (i ≡ list_at d + 2 → ⊥) → get_or F i 0 ≡ get_or S i 0
  first_other i a b c e =
      get_or-set_other F₃ (list_at d + 2) i h 0 e
      ∙ (get_or-set_other F₂ (list_at d + 1) i 1 0 c ∙ (get_or-set_other F₁ (list_at d) i (q + 1) 0 b ∙ get_or-set_other S top i (q + 1) 0 a))

  first_top : get_or F top 0 ≡ q + 1
  first_top =
      get_or-set_other F₃ (list_at d + 2) top h 0 (λ z. omega arith)
      ∙ (get_or-set_other F₂ (list_at d + 1) top 1 0 (λ z. omega arith)
      ∙ (get_or-set_other F₁ (list_at d) top (q + 1) 0 (λ z. omega arith) ∙ get_or-set_same S top (q + 1) 0 (omega arith)))

  first_object : get_or F (list_at d) 0 ≡ q + 1
  first_object =
      get_or-set_other F₃ (list_at d + 2) (list_at d) h 0 (λ z. omega arith)
      ∙ (get_or-set_other F₂ (list_at d + 1) (list_at d) 1 0 (λ z. omega arith) ∙ get_or-set_same F₁ (list_at d) (q + 1) 0 first_two)

  first_count : get_or F (list_at d + 1) 0 ≡ 1
  first_count = get_or-set_other F₃ (list_at d + 2) (list_at d + 1) h 0 (λ z. omega arith) ∙ get_or-set_same F₂ (list_at d + 1) 1 0 first_three

  first_hash : get_or F (list_at d + 2) 0 ≡ h
  first_hash = get_or-set_same F₃ (list_at d + 2) h 0 first_four

  first_on : (base : ℕ) → seen ≤ base → (c : ℕ) → On S base c → On F base c
  first_on base v c o = on_same S F base c (first_other (base + c / 32) (λ z. omega arith) (λ z. omega arith) (λ z. omega arith) (λ z. omega arith)) o

  -- another list
  first_list : (c i : ℕ) → (c ≡ d → ⊥) → c < lists → i < 18 → get_or F (list_at c + i) 0 ≡ get_or S (list_at c + i) 0
  first_list c i n m v = first_other (list_at c + i) (λ z. omega arith) (λ z. n (omega arith)) (λ z. n (omega arith)) (λ z. n (omega arith))

  module _ (zs : List Mark) (w : Whole zs S) (g : get_or S top 0 ≤ q) where
    head : (c : ℕ) → (c ≡ d → ⊥) → c < lists → get_or F (list_at c) 0 ≡ get_or S (list_at c) 0
    head c n m = first_other (list_at c) (λ z. omega arith) (λ z. n (omega arith)) (λ z. n (omega arith)) (λ z. n (omega arith))

    below : (c : ℕ) → c < lists → Dec (c ≡ d) → get_or F (list_at c) 0 ≤ get_or F top 0
    below c m (yes z) = let u : get_or F (list_at c) 0 ≡ q + 1 = ap (λ (i : ℕ). get_or F (list_at i) 0) z ∙ first_object in omega (arith, first_top)
    below c m (no n) = omega (arith, head c n m, w.below c m, first_top)

    apart : (a b : ℕ) → a < lists → b < lists → get_or F (list_at a) 0 ≡ get_or F (list_at b) 0 → 0 < get_or F (list_at a) 0 → Dec (a ≡ d) → Dec (b ≡ d) → a ≡ b
    apart a b m n e p (yes x) (yes y) = x ∙ sym y
    apart a b m n e p (yes x) (no y) =
        let u : get_or F (list_at a) 0 ≡ q + 1 = ap (λ (i : ℕ). get_or F (list_at i) 0) x ∙ first_object in
        absurd (omega (arith, head b y n, w.below b n))
    apart a b m n e p (no x) (yes y) =
        let u : get_or F (list_at b) 0 ≡ q + 1 = ap (λ (i : ℕ). get_or F (list_at i) 0) y ∙ first_object in
        absurd (omega (arith, head a x m, w.below a m))
    apart a b m n e p (no x) (no y) = w.apart a b m n (sym (head a x m) ∙ (e ∙ head b y n)) (omega (arith, head a x m))

    few : (c : ℕ) → c < lists → Dec (c ≡ d) → get_or F (list_at c + 1) 0 ≤ 16
    few c m (yes z) = let u : get_or F (list_at c + 1) 0 ≡ 1 = ap (λ (i : ℕ). get_or F (list_at i + 1) 0) z ∙ first_count in omega arith
    few c m (no n) = omega (arith, first_list c 1 n m (omega arith), w.few c m)

    -- the key itself is in its list; no earlier one is of its object
    noted : (c p k : ℕ) → c < lists → Has p k (mark q h ∷ zs) → get_or F (list_at c) 0 ≡ p + 1 → Dec (c ≡ d) → Noted F c k
    noted c p k m has_here e (yes z) =
        subst (λ (i : ℕ). Noted F i h) (sym z)
        (inl (record { number = 0; low = omega (arith, first_count); is = ap (λ (i : ℕ). get_or F i 0) (add-zero (list_at d + 2)) ∙ first_hash }))
    noted c p k m has_here e (no n) = absurd (omega (arith, head c n m, w.below c m))
    noted c p k m (has_later i) e (yes z) =
        let u : get_or F (list_at c) 0 ≡ q + 1 = ap (λ (i : ℕ). get_or F (list_at i) 0) z ∙ first_object in
        absurd (omega (arith, w.low p k i))
    noted c p k m (has_later i) e (no n) = by (w.noted c p k m i (sym (head c n m) ∙ e))
      where
        by : Noted S c k → Noted F c k
        by (inr o) = inr (first_on seen (omega arith) (class_of k) o)
        by (inl x) =
            let f = w.few c m in
            inl
            (record {
              number = x.number;
              low = omega (arith, first_list c 1 n m (omega arith), x.low);
              is =
                  first_other (list_at c + 2 + x.number) (λ y. omega (arith, x.low)) (λ y. n (omega (arith, x.low))) (λ y. n (omega (arith, x.low))) (λ y. n (omega (arith, x.low)))
                  ∙ x.is;
            })

    -- it has not come before
    fresh : (p k : ℕ) → Double p k (mark q h ∷ zs) → Double p k zs
    fresh p k (double_here i) = absurd (omega (arith, w.low q h i))
    fresh p k (double_later i) = i

  pub first_steps : get_or S top 0 ≤ q → get_or S broken 0 ≡ 0 → Steps S q h F
  first_steps g b =
      record {
        framed =
            record {
              long = first_long;
              below = λ i v. first_other i (λ z. omega arith) (λ z. omega arith) (λ z. omega arith) (λ z. omega arith);
              above = λ i v. first_other i (λ z. omega arith) (λ z. omega arith) (λ z. omega arith) (λ z. omega arith);
            };
        sieved = λ zs s.
            let w = s.whole b in
            record {
              found = λ p k v.
                  let r = s.found p k (fresh zs w g p k v) in
                  let y = first_other hits (λ z. omega arith) (λ z. omega arith) (λ z. omega arith) (λ z. omega arith) in
                  (first_on again (omega arith) (class_of k) r.0, omega (arith, r.1));
              whole = λ c.
                  record {
                    low = low zs w g;
                    below = λ c m. below zs w g c m (ℕ_discrete c d);
                    apart = λ a b m n e p. apart zs w g a b m n e p (ℕ_discrete a d) (ℕ_discrete b d);
                    few = λ c m. few zs w g c m (ℕ_discrete c d);
                    noted = λ c p k m i e. noted zs w g c p k m i e (ℕ_discrete c d);
                  };
              plain = λ c. let y = first_other broken (λ z. omega arith) (λ z. omega arith) (λ z. omega arith) (λ z. omega arith) in absurd (omega arith);
            };
      }
    where
      low : (zs : List Mark) → Whole zs S → get_or S top 0 ≤ q → (p k : ℕ) → Has p k (mark q h ∷ zs) → p < get_or F top 0
      low zs w g p k has_here = omega (arith, first_top)
      low zs w g p k (has_later i) = omega (arith, first_top, w.low p k i)

-- ---- an object that is not known: from then on every key is found again

pub lost_steps : (S : List ℕ) (q h : ℕ) (S' : List ℕ) → length S ≡ large → Flags (set S broken 1) (class_of h) S' → Steps S q h S'
lost_steps S q h S' long x =
    let o : (i : ℕ) → (i ≡ broken → ⊥) → get_or (set S broken 1) i 0 ≡ get_or S i 0 = λ i n. get_or-set_other S broken i 1 0 n in
    record {
      framed =
          record {
            long = x.long ∙ length-set S broken 1;
            below = λ i v. x.below i v ∙ o i (λ z. omega arith);
            above = λ i v. x.above i v ∙ o i (λ z. omega arith);
          };
      sieved = λ zs s.
          record {
            found =
                flag_found zs (set S broken 1) S' q h x
                (λ p g u.
                let v = s.found p g u in
                (on_same S (set S broken 1) again (class_of g) (o (again + class_of g / 32) (λ z. omega arith)) v.0, (let k = o hits (λ z. omega arith) in omega (arith, v.1))));
            whole = λ c.
                let z = x.between broken (omega arith) (omega arith) ∙ get_or-set_same S broken 1 0 (omega arith) in
                absurd (omega arith);
            plain = λ c.
                let z = x.between broken (omega arith) (omega arith) ∙ get_or-set_same S broken 1 0 (omega arith) in
                absurd (omega arith);
          };
    }

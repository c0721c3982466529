-- A WINDOW OF KEYS THAT A TEST KEEPS, held against each other and against those that another test keeps: if nothing clashes, all that the other does not keep are alone exactly if those outside the window are (`Spares`). Assumes nothing.
use Rattle.std.specs.Prelude.{◌≡◌, List, [], ◌∷◌, Bool, ℕ, suc, ◌≤◌, ◌<◌, leb}
use Rattle.std.proofs.Math.Path.{refl, sym}
use Rattle.std.proofs.Common.{ap, subst, ◌∙◌, arith, le-leb}
use Rattle.std.proofs.Math.Bool.{true, false}
use Rattle.std.proofs.Math.Decide.{ℕ_discrete, dec_lt}
use Rattle.std.proofs.lemmas.Bool.{lt-leb}
use Rattle.exact.specs.Class.{clash}
use Rattle.language.specs.Kind.{pick}
use Rattle.distinct.specs.Names.{spelt, Twice, sits_at}
use Rattle.distinct.specs.Roads.{Road, Walks, walks_end, walks_on, Apart, apart_none, apart_more}
use Rattle.distinct.specs.Window.{Clash, clash_within, clash_behind, Firsts, firsts_none, firsts_more, Leads, leads_clash}
use Rattle.cutkeys.specs.Kept.{kept, first_of, kept_road, walks_to}
use Rattle.cutkeys.specs.Alone.{In, in_here, in_later, Other, other_here, other_later, in_among, among_in, among_kept, in_kept, above, among_other, walks_same, Alone, AloneTold}

-- ---- keys by number and by place

not_in : {p r : ℕ} {us : List ℕ} → (p ≡ r → ⊥) → (In p us → ⊥) → In p (r ∷ us) → ⊥
not_in z o in_here = z refl
not_in z o (in_later j) = o j

module _ (D : Road) (text froms tos : List ℕ) where
  rest_in : {rs us : List ℕ} {n p : ℕ} → Firsts D text froms tos rs n us → In p us → In p rs
  rest_in firsts_none i = i
  rest_in (firsts_more e f) i = rest_in f (in_later i)

  -- the key of a number
  number_key : {rs us : List ℕ} {n : ℕ} → Firsts D text froms tos rs n us → (k : ℕ) → k < n → (p : ℕ) × In p rs × (D.text p ≡ spelt text froms tos k)
  number_key firsts_none k l = absurd (omega arith)
  number_key {rs} (firsts_more {n = n} {r = r} e f) k l = by (λ m. number_key f k m) (ℕ_discrete k n)
    where
      by : (k < n → (p : ℕ) × In p rs × (D.text p ≡ spelt text froms tos k)) → Dec (k ≡ n) → (p : ℕ) × In p rs × (D.text p ≡ spelt text froms tos k)
      by g (yes z) = (r, rest_in f in_here, e ∙ ap (spelt text froms tos) (sym z))
      by g (no z) = g (omega arith)

  -- the number of a key
  key_number : {rs us : List ℕ} {n p : ℕ} → Firsts D text froms tos rs n us → In p rs → (In p us → ⊥) → (k : ℕ) × (k < n) × (D.text p ≡ spelt text froms tos k)
  key_number firsts_none i o = absurd (o i)
  key_number {us = us} {p = p} (firsts_more {n = n} {r = r} e f) i o = by (λ m. key_number f i m) (ℕ_discrete p r)
    where
      by : ((In p (r ∷ us) → ⊥) → (k : ℕ) × (k < n) × (D.text p ≡ spelt text froms tos k)) → Dec (p ≡ r) → (k : ℕ) × (k < suc n) × (D.text p ≡ spelt text froms tos k)
      by g (yes z) = (n, omega arith, ap D.text z ∙ e)
      by g (no z) = let y = g (not_in z o) in (y.0, let l = y.1 in omega arith, y.2)

  -- two keys with one text
  keys_twice : {rs us : List ℕ} {n p q : ℕ} → Firsts D text froms tos rs n us → In p rs → In q rs → (In p us → ⊥) → (In q us → ⊥) → (p ≡ q → ⊥) → D.text p ≡ D.text q → Twice text froms tos n
  keys_twice firsts_none i j o u d t = absurd (o i)
  keys_twice {rs = rs} {us = us} {p = p} {q = q} (firsts_more {n = n} {r = r} e f) i j o u d t = by (λ v w. keys_twice f i j v w d t) (ℕ_discrete p r) (ℕ_discrete q r)
    where
      last : (x : ℕ) → In x rs → (In x us → ⊥) → (x ≡ r → ⊥) → D.text r ≡ D.text x → Twice text froms tos (suc n)
      last x y v z s = let k = key_number f y (not_in z v) in record { number = n; low = omega arith; earlier = sits_at text froms tos k.0 k.1 (sym e ∙ (s ∙ k.2)) }

      by : ((In p (r ∷ us) → ⊥) → (In q (r ∷ us) → ⊥) → Twice text froms tos n) → Dec (p ≡ r) → Dec (q ≡ r) → Twice text froms tos (suc n)
      by g (yes z) (yes y) = absurd (d (z ∙ sym y))
      by g (yes z) (no y) = last q j u y (ap D.text (sym z) ∙ t)
      by g (no z) (yes y) = last p i o z (ap D.text (sym y) ∙ sym t)
      by g (no z) (no y) = let w = g (not_in z o) (not_in y u) in record { number = w.number; low = let l = w.low in omega arith; earlier = w.earlier }

kept_more : (f : ℕ → Bool) {q r : ℕ} {ks rs : List ℕ} → f r ≡ true → (In q ks → In q rs × (f q ≡ true)) → In q (r ∷ ks) → In q (r ∷ rs) × (f q ≡ true)
kept_more f e g in_here = (in_here, e)
kept_more f e g (in_later j) = let y = g j in (in_later y.0, y.1)

kept_in : (f : ℕ → Bool) {q : ℕ} (rs : List ℕ) → In q (kept f rs) → In q rs × (f q ≡ true)
unfolding kept
kept_in f [] i = elim i [ ]
kept_in f {q} (r ∷ rs) i = by (λ j. kept_in f rs j) (f r) refl i
  where
    by : (In q (kept f rs) → In q rs × (f q ≡ true)) → (b : Bool) → f r ≡ b → In q (pick b (r ∷ kept f rs) (kept f rs)) → In q (r ∷ rs) × (f q ≡ true)
    by g true e j = kept_more f e g j
    by g false e j = let y = g j in (in_later y.0, y.1)

other_in : {text : ℕ → List ℕ} {p : ℕ} {s rs : List ℕ} → Other text p s rs → (q : ℕ) × In q rs × (q ≡ p → ⊥) × (s ≡ text q)
other_in (other_here {q = q} n e) = (q, in_here, n, e)
other_in (other_later x) = let z = other_in x in (z.0, in_later z.1, z.2, z.3)

in_other : {text : ℕ → List ℕ} {p q : ℕ} {s rs : List ℕ} → In q rs → (q ≡ p → ⊥) → s ≡ text q → Other text p s rs
in_other in_here n e = other_here n e
in_other (in_later i) n e = other_later (in_other i n e)

-- ---- what f keeps, and what g does before q

-- one of the two
unfoldable pub inside : (ℕ → Bool) → (ℕ → Bool) → ℕ → ℕ → Bool
inside f g q p = pick (f p) true (pick (g p) (leb (suc p) q) false)

module _ (f g : ℕ → Bool) (q p : ℕ) where
  pub inside_first : f p ≡ true → true ≡ inside f g q p
  unfolding inside
  inside_first e = rw e refl

  pub inside_behind : f p ≡ false → q ≤ p → false ≡ inside f g q p
  unfolding inside
  inside_behind e l = rw e (by (g p))
    where
      by : (b : Bool) → false ≡ pick b (leb (suc p) q) false
      by true = sym (lt-leb (suc p) q (omega arith))
      by false = refl

  pub inside_second : f p ≡ false → p < q → g p ≡ inside f g q p
  unfolding inside
  inside_second e l = rw e (by (g p))
    where
      by : (b : Bool) → b ≡ pick b (leb (suc p) q) false
      by true = sym (le-leb (suc p) q (omega arith))
      by false = refl

  -- what is outside is not kept by f
  pub inside_no : inside f g q p ≡ false → f p ≡ false
  inside_no e = by (f p) refl
    where
      by : (b : Bool) → f p ≡ b → f p ≡ false
      by true z = absurd (clash (sym (inside_first z)) e)
      by false z = z

  pub inside_window : f p ≡ false → inside f g q p ≡ true → (g p ≡ true) × (p < q)
  inside_window z e = by (dec_lt p q)
    where
      by : Dec (p < q) → (g p ≡ true) × (p < q)
      by (yes l) = (inside_second z l ∙ e, l)
      by (no l) = absurd (clash e (sym (inside_behind z (let m : q ≤ p = omega arith in m))))

module _ (D : Road) (f g : ℕ → Bool) where
  -- THOSE THAT f DOES NOT KEEP are alone if those outside the window are, which is over at q
  pub record Spares (q : ℕ) : Type 0 where
    pub spared : (rs : List ℕ) → Walks D 0 rs → Alone D (inside f g q) 0 rs → Alone D f 0 rs

  pub spares_none : Spares 0
  spares_none = record { spared = λ rs w a p i e. a p i (sym (inside_behind f g 0 p e (omega arith))) }

  pub spares_told : (q : ℕ) → Spares q → (b : Bool) → AloneTold D (inside f g q) 0 b → AloneTold D f 0 b
  spares_told q s true t rs w = s.spared rs w (t rs w)
  spares_told q s false t rs w = λ a. t rs w (λ p i e. a p i (inside_no f g q p e))

  -- those alone are apart
  lone_apart : {r : ℕ} {us : List ℕ} → Walks D r us → ((p : ℕ) → In p us → g p ≡ true → Other D.text p (D.text p) us → ⊥) → Apart D.text (kept g us)
  unfolding kept
  lone_apart walks_end h = apart_none
  lone_apart (walks_on {r = r} {rs = us} o w) h = by (g r) refl (lone_apart w (λ p i e x. h p (in_later i) e (other_later x)))
    where
      by : (b : Bool) → g r ≡ b → Apart D.text (kept g us) → Apart D.text (pick b (r ∷ kept g us) (kept g us))
      by true e x = apart_more (λ a. h r in_here e (other_later (among_other D w (D.onward r o) (among_kept D.text g us a)))) x
      by false e x = x

  module _ (cut : (p : ℕ) → g p ≡ true → f p ≡ false) (text froms tos : List ℕ) (n q : ℕ) (x : Leads (kept_road D g) text froms tos (first_of D g 0) n q) where
    module _ (rs : List ℕ) (w : Walks D 0 rs) where
      -- something clashes
      pub clash_lone : Clash (kept_road D f) text froms tos n (kept f rs) → Alone D f 0 rs → ⊥
      clash_lone (clash_within t) a =
          leads_clash (kept_road D g) text froms tos (first_of D g 0) n q x (λ us u. clash_within t) (kept g rs) (walks_to D g w)
          (lone_apart w (λ p i e o. a p i (cut p e) rs w o))
      clash_lone (clash_behind t) a =
          let z = number_key (kept_road D g) text froms tos (x.firsts (kept g rs) (walks_to D g w)) t.number t.low in
          let y = among_in D.text t.among in
          let i = kept_in g rs z.1 in
          let j = kept_in f rs y.1 in
          let c = cut z.0 i.1 in
          a z.0 i.0 c rs w (in_other j.0 (λ e. clash j.1 (ap f e ∙ c)) (z.2 ∙ y.2))

      -- nothing does
      module _ (none : Clash (kept_road D f) text froms tos n (kept f rs) → ⊥) (a : Alone D (inside f g q) 0 rs) where
        record There (p : ℕ) : Type 0 where
          is_in : In p (kept g rs)
          before : In p (x.to (kept g rs) (walks_to D g w)) → ⊥

        there : (p : ℕ) → In p rs → f p ≡ false → inside f g q p ≡ true → There p
        there p i e z =
            let y = inside_window f g q p e z in
            record {
              is_in = in_kept D.text g i y.0;
              before = λ j. let l = above (kept_road D g) (x.walks (kept g rs) (walks_to D g w)) j in let m = y.1 in omega arith;
            }

        lone : (p : ℕ) → In p rs → f p ≡ false → Other D.text p (D.text p) rs → ⊥
        lone p i e o = first (inside f g q p) refl
          where
            z : (y : ℕ) × In y rs × (y ≡ p → ⊥) × (D.text p ≡ D.text y)
            z = other_in o

            firsts : Firsts (kept_road D g) text froms tos (kept g rs) n (x.to (kept g rs) (walks_to D g w))
            firsts = x.firsts (kept g rs) (walks_to D g w)

            third : There p → (b : Bool) → f z.0 ≡ false → inside f g q z.0 ≡ b → ⊥
            third t true c v =
                let u = there z.0 z.1 c v in
                none (clash_within (keys_twice (kept_road D g) text froms tos firsts t.is_in u.is_in t.before u.before (λ k. z.2 (sym k)) z.3))
            third t false c v = a z.0 z.1 v rs w (in_other i (λ k. z.2 (sym k)) (sym z.3))

            second : There p → (b : Bool) → f z.0 ≡ b → ⊥
            second t true c =
                let k = key_number (kept_road D g) text froms tos firsts t.is_in t.before in
                none (clash_behind (record { number = k.0; low = k.1; among = in_among D.text (in_kept D.text f z.1 c) (sym k.2 ∙ z.3) }))
            second t false c = third t (inside f g q z.0) c refl

            first : (b : Bool) → inside f g q p ≡ b → ⊥
            first true v = second (there p i e v) (f z.0) refl
            first false v = a p i v rs w o

    pub clash_spares : ((rs : List ℕ) → Walks D 0 rs → Clash (kept_road D f) text froms tos n (kept f rs) → ⊥) → Spares q
    clash_spares none = record { spared = λ rs w a p i e us u o. lone rs w (none rs w) a p i e (subst (Other D.text p (D.text p)) (walks_same D u w) o) }

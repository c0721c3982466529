-- A WINDOW OF KEYS: the texts of some keys of a road in rooms, by number, and the road behind them (`Leads`). No two keys have one text exactly if none of the window has that of an
-- earlier one (`Twice`), none behind it that of one in it (`Touched`), and no two behind it have one. Assumes nothing.
use Rattle.std.specs.Prelude.{◌≡◌, refl, List, [], ◌∷◌, Bool, true, false, ℕ, suc, ◌+◌, ◌≤◌, ◌<◌, length, get_or, set, replicate, Option, Some, None, Result, Ok, Err}
use Rattle.std.proofs.Common.{sym, subst, ◌∙◌, arith, add-one, length-set, get_or-set_same, get_or-set_other}
use Rattle.std.proofs.Math.Decide.{ℕ_discrete}
use Rattle.std.proofs.lemmas.List.{length-replicate}
use Rattle.std.proofs.Math.Seq.{slice}
use Rattle.exact.specs.Tells.{Tells}
use Rattle.repeats.specs.declared.TooLong.{TooLong}
use Rattle.repeats.specs.Later.{zeros}
use Rattle.repeats.specs.Links.{chains_none}
use Rattle.repeats.specs.Walk.{Walks as Looks, walks_met, walks_past, walks_long}
use Rattle.distinct.specs.Names.{Part, spelt, text_keys, Held, Sits, sits_at, Twice}
use Rattle.distinct.specs.Chains.{told_low, told_at, told_none, SitsTold, Starting, Linked, linked_twice, linked_once}
use Rattle.distinct.specs.Ranks.{Finds, InOrder, Ranged, ranged_twice, ranged_once, gap_none, stands_sits}
use Rattle.distinct.specs.Roads.{Road, Walks, Among, among_here, among_later, Apart, apart_more, apart_rest, apart_not, walks_next, Comes, comes_first, comes_here, comes_on, comes_none, ApartTold}

module _ (D : Road) (text froms tos : List ℕ) where
  -- one of the first n has the text of one of these
  pub record Touched (n : ℕ) (us : List ℕ) : Type 0 where
    pub number : ℕ
    pub low : number < n
    pub among : Among D.text (spelt text froms tos number) us

  pub touched_none : {n : ℕ} → Touched n [] → ⊥
  touched_none x = elim x.among [ ]

  pub touched_here : {n r : ℕ} {us : List ℕ} → Sits text froms tos (D.text r) n → Touched n (r ∷ us)
  touched_here x = record { number = x.other; low = x.key.before; among = among_here (sym x.same) }

  pub touched_later : {n r : ℕ} {us : List ℕ} → Touched n us → Touched n (r ∷ us)
  touched_later x = record { number = x.number; low = x.low; among = among_later x.among }

  pub touched_past : {n r : ℕ} {us : List ℕ} → (Sits text froms tos (D.text r) n → ⊥) → Touched n (r ∷ us) → Touched n us
  touched_past {n} {r} {us} f x = record { number = x.number; low = x.low; among = by x.among }
    where
      by : Among D.text (spelt text froms tos x.number) (r ∷ us) → Among D.text (spelt text froms tos x.number) us
      by (among_here e) = absurd (f (sits_at text froms tos x.number x.low (sym e)))
      by (among_later y) = y

  -- one of the two
  pub data Clash (n : ℕ) (us : List ℕ) : Type 0 where
    clash_within : Twice text froms tos n → Clash n us
    clash_behind : Touched n us → Clash n us

  pub clash_none : {n : ℕ} {us : List ℕ} → (Twice text froms tos n → ⊥) → (Touched n us → ⊥) → Clash n us → ⊥
  clash_none f g (clash_within x) = f x
  clash_none f g (clash_behind x) = g x

  -- the keys rs are the first n, by their texts, and us behind them
  pub data Firsts (rs : List ℕ) : ℕ → List ℕ → Type 0 where
    firsts_none : Firsts rs 0 rs
    firsts_more : {n r : ℕ} {us : List ℕ} → D.text r ≡ spelt text froms tos n → Firsts rs n (r ∷ us) → Firsts rs (suc n) us

  -- ---- what keeps them apart

  pub apart_behind : {rs : List ℕ} {n : ℕ} {us : List ℕ} → Firsts rs n us → Apart D.text rs → Apart D.text us
  apart_behind firsts_none x = x
  apart_behind (firsts_more e f) x = apart_rest (apart_behind f x)

  apart_touched : {rs : List ℕ} {n : ℕ} {us : List ℕ} → Firsts rs n us → Apart D.text rs → Touched n us → ⊥
  apart_touched firsts_none x t = omega (arith, t.low)
  apart_touched (firsts_more {n = n} {r = r} {us = us} e f) x t = by (λ y. apart_touched f x y) (ℕ_discrete t.number n)
    where
      by : (Touched n (r ∷ us) → ⊥) → Dec (t.number ≡ n) → ⊥
      by g (yes z) = apart_not (subst (λ (s : List ℕ). Among D.text s us) (sym e) (subst (λ (k : ℕ). Among D.text (spelt text froms tos k) us) z t.among)) (apart_behind f x)
      by g (no z) = g (record { number = t.number; low = omega (arith, t.low); among = among_later t.among })

  apart_twice : {rs : List ℕ} {n : ℕ} {us : List ℕ} → Firsts rs n us → Apart D.text rs → Twice text froms tos n → ⊥
  apart_twice firsts_none x t = omega (arith, t.low)
  apart_twice (firsts_more {n = n} {r = r} e f) x t = by (λ y. apart_twice f x y) (ℕ_discrete t.number n)
    where
      by : (Twice text froms tos n → ⊥) → Dec (t.number ≡ n) → ⊥
      by g (yes z) =
          let y : Sits text froms tos (spelt text froms tos n) n = subst (λ (j : ℕ). Sits text froms tos (spelt text froms tos j) j) z t.earlier in
          apart_touched f x (record { number = y.other; low = y.key.before; among = among_here (sym (e ∙ y.same)) })
      by g (no z) = g (record { number = t.number; low = omega (arith, t.low); earlier = t.earlier })

  apart_firsts : {rs : List ℕ} {n : ℕ} {us : List ℕ} → Firsts rs n us → (Twice text froms tos n → ⊥) → (Touched n us → ⊥) → Apart D.text us → Apart D.text rs
  apart_firsts firsts_none f g x = x
  apart_firsts (firsts_more {n = n} {r = r} {us = us} e h) f g x =
      apart_firsts h
      (λ t. f (record { number = t.number; low = omega (arith, t.low); earlier = t.earlier }))
      (λ t. g (record { number = t.number; low = omega (arith, t.low); among = past t t.among }))
      (apart_more (λ y. g (record { number = n; low = omega arith; among = subst (λ (s : List ℕ). Among D.text s us) e y })) x)
    where
      past : (t : Touched n (r ∷ us)) → Among D.text (spelt text froms tos t.number) (r ∷ us) → Among D.text (spelt text froms tos t.number) us
      past t (among_here z) = absurd (f (record { number = n; low = omega arith; earlier = sits_at text froms tos t.number t.low (sym e ∙ sym z) }))
      past t (among_later y) = y

  apart_clash : {rs : List ℕ} {n : ℕ} {us : List ℕ} → Firsts rs n us → Clash n us → Apart D.text rs → ⊥
  apart_clash f (clash_within t) x = apart_twice f x t
  apart_clash f (clash_behind t) x = apart_touched f x t

-- ---- a window is filled

-- the texts of the first n keys from `from` on stand in the rooms, and the others are those from r on
pub record Leads (D : Road) (text froms tos : List ℕ) (from n r : ℕ) : Type 0 where
  pub held : Held text froms tos n
  pub to : (rs : List ℕ) → Walks D from rs → List ℕ
  pub walks : (rs : List ℕ) (w : Walks D from rs) → Walks D r (to rs w)
  pub firsts : (rs : List ℕ) (w : Walks D from rs) → Firsts D text froms tos rs n (to rs w)

pub held_none : (text froms tos : List ℕ) → Held text froms tos 0
held_none text froms tos = record { from_room = omega arith; to_room = omega arith; few = omega arith; part = λ k l. absurd (omega arith) }

pub leads_none : (D : Road) (text froms tos : List ℕ) (from : ℕ) → Leads D text froms tos from 0 from
leads_none D text froms tos from = record { held = held_none text froms tos; to = λ rs w. rs; walks = λ rs w. w; firsts = λ rs w. firsts_none }

-- what is stored behind the first n changes none of them
pub spelt_set : (text froms tos : List ℕ) (i a e : ℕ) {n : ℕ} → n < i → spelt text froms tos n ≡ spelt text (set froms i a) (set tos i e) n
spelt_set text froms tos i a e {n} l = sym (rw (get_or-set_other froms i n a 0 (λ z. omega arith), get_or-set_other tos i n e 0 (λ z. omega arith)) refl)

module _ (text froms tos : List ℕ) (n a e : ℕ) where
  pub spelt_last : n < length froms → n < length tos → slice a e text ≡ spelt text (set froms n a) (set tos n e) n
  spelt_last m o = sym (rw (get_or-set_same froms n a 0 m, get_or-set_same tos n e 0 o) refl)

  held_set : Held text froms tos n → n < length froms → n < length tos → n < 8192 → Part text a e → Held text (set froms n a) (set tos n e) (suc n)
  held_set x m o f p =
      record { from_room = omega (arith, length-set froms n a); to_room = omega (arith, length-set tos n e); few = omega arith; part = λ k h. by k h (ℕ_discrete k n) }
    where
      by : (k : ℕ) → k < suc n → Dec (k ≡ n) → Part text (get_or (set froms n a) k 0) (get_or (set tos n e) k 0)
      by k h (yes y) = rw (y, get_or-set_same froms n a 0 m, get_or-set_same tos n e 0 o) p
      by k h (no y) = rw (get_or-set_other froms n k a 0 y, get_or-set_other tos n k e 0 y) (x.part k (omega arith))

  pub held_more : Held text froms tos n → n < length froms → n < length tos → n < 8192 → Part text a e → Held text (set froms n a) (set tos n e) (n + 1)
  held_more x m o f p = rw (add-one n) (held_set x m o f p)

firsts_set : (D : Road) (text froms tos : List ℕ) (i a e : ℕ) {rs : List ℕ} {n : ℕ} {us : List ℕ} → n ≤ i → Firsts D text froms tos rs n us → Firsts D text (set froms i a) (set tos i e) rs n us
firsts_set D text froms tos i a e l firsts_none = firsts_none
firsts_set D text froms tos i a e l (firsts_more z f) = firsts_more (z ∙ spelt_set text froms tos i a e (omega arith)) (firsts_set D text froms tos i a e (omega arith) f)

module _ (D : Road) (text froms tos : List ℕ) (from n r : ℕ) (x : Leads D text froms tos from n r) (l : r < D.stop) (m : n < length froms) (o : n < length tos) (f : n < 8192) (a e : ℕ) (p : Part text a e)
    (z : D.text r ≡ slice a e text) where
  leads_set : Leads D text (set froms n a) (set tos n e) from (suc n) (D.next r)
  leads_set =
      record {
        held = held_set text froms tos n a e x.held m o f p;
        to = λ rs w. (walks_next D (x.walks rs w) l).0;
        walks = λ rs w. (walks_next D (x.walks rs w) l).3;
        firsts = λ rs w. let y = walks_next D (x.walks rs w) l in
            firsts_more (z ∙ spelt_last text froms tos n a e m o) (firsts_set D text froms tos n a e (omega arith) (subst (Firsts D text froms tos rs n) y.1 (x.firsts rs w)));
      }

  pub leads_more : (q : ℕ) → q ≡ D.next r → Leads D text (set froms n a) (set tos n e) from (n + 1) q
  leads_more q y = rw (y, add-one n) leads_set

-- THE KEYS ARE APART exactly if those behind the window are, and nothing clashes
module _ (D : Road) (text froms tos : List ℕ) (from n r : ℕ) (x : Leads D text froms tos from n r) where
  pub leads_clash : ((us : List ℕ) → Walks D r us → Clash D text froms tos n us) → ApartTold D from false
  leads_clash f rs w y = apart_clash D text froms tos (x.firsts rs w) (f (x.to rs w) (x.walks rs w)) y

  pub leads_comes : ((us : List ℕ) → Walks D r us → Clash D text froms tos n us → ⊥) → Comes D (Apart D.text) from r
  leads_comes f =
      record {
        to = x.to;
        walks = x.walks;
        there = λ rs w y. apart_behind D text froms tos (x.firsts rs w) y;
        back = λ rs w y. apart_firsts D text froms tos (x.firsts rs w) (λ t. f (x.to rs w) (x.walks rs w) (clash_within t)) (λ t. f (x.to rs w) (x.walks rs w) (clash_behind t)) y;
      }

-- ---- the keys behind the window, each sought in it: what is told of them
module _ (D : Road) (text froms tos : List ℕ) (n from : ℕ) where
  abbrev pub TouchedLooked : Result Bool TooLong → Type 0
  TouchedLooked w = (us : List ℕ) → Walks D from us → Looks (Touched D text froms tos n us) w

  abbrev pub TouchedTold : Bool → Type 0
  TouchedTold b = (us : List ℕ) → Walks D from us → Tells (Touched D text froms tos n us) b

  pub trail_first : Comes D (Touched D text froms tos n) from from
  trail_first = comes_first D

module _ (D : Road) (text froms tos : List ℕ) (n from r : ℕ) (x : Comes D (Touched D text froms tos n) from r) where
  pub trail_none : D.stop ≤ r → TouchedTold D text froms tos n from false
  trail_none l = comes_none D x l (touched_none D text froms tos)

  pub trail_over : D.stop ≤ r → TouchedLooked D text froms tos n from (Ok false)
  unfolding Looks
  trail_over l = comes_none D x l (touched_none D text froms tos)

  pub trail_long : (e : TooLong) → TouchedLooked D text froms tos n from (Err e)
  trail_long e us v = walks_long (Touched D text froms tos n us) e

  module _ (l : r < D.stop) where
    trail_here : Sits text froms tos (D.text r) n → (us : List ℕ) → Walks D from us → Touched D text froms tos n us
    trail_here y = comes_here D x l (λ us v. touched_here D text froms tos y)

    trail_on : (Sits text froms tos (D.text r) n → ⊥) → (q : ℕ) → q ≡ D.next r → Comes D (Touched D text froms tos n) from q
    trail_on f q h = rw h (comes_on D x l (λ us v y. touched_past D text froms tos f y) (λ us v y. touched_later D text froms tos y))

    -- in chains
    module _ (s : Result (Option ℕ) TooLong) (t : SitsTold text froms tos n (D.text r) s) where
      abbrev P : ℕ → Type 0
      P k = D.text r ≡ spelt text froms tos k

      abbrev Q : Type 0
      Q = Sits text froms tos (D.text r) n

      pub trail_met : (k : ℕ) → s ≡ Ok (Some k) → TouchedLooked D text froms tos n from (Ok true)
      unfolding Looks
      trail_met k e us v = trail_here (sits_at text froms tos k (told_low P n Q s t k e) (told_at P n Q s t k e)) us v

      pub trail_past : s ≡ Ok None → (q : ℕ) → q ≡ D.next r → Comes D (Touched D text froms tos n) from q
      trail_past e q h = trail_on (told_none P n Q s t e) q h

    -- in order
    module _ (order : List ℕ) (s : Result ℕ ℕ) (t : Finds text froms tos order n (D.text r) s) where
      pub trail_there : (k : ℕ) → s ≡ Ok k → TouchedTold D text froms tos n from true
      trail_there k e us v = trail_here (stands_sits text froms tos order n (D.text r) s t k e) us v

      pub trail_gap : InOrder text froms tos order n → (p : ℕ) → s ≡ Err p → (q : ℕ) → q ≡ D.next r → Comes D (Touched D text froms tos n) from q
      trail_gap y p e q h = trail_on (gap_none text froms tos order n (D.text r) s t y.ranked p e) q h

-- ---- what clashes

module _ (D : Road) (text froms tos : List ℕ) (n next : ℕ) where
  abbrev pub ClashLooked : Result Bool TooLong → Type 0
  ClashLooked w = (us : List ℕ) → Walks D next us → Looks (Clash D text froms tos n us) w

  abbrev pub ClashTold : Bool → Type 0
  ClashTold b = (us : List ℕ) → Walks D next us → Tells (Clash D text froms tos n us) b

  pub looked_yes : (w : Result Bool TooLong) → ClashLooked w → w ≡ Ok true → ClashTold true
  looked_yes w t e us v = walks_met (Clash D text froms tos n us) w (t us v) e

  pub looked_no : (w : Result Bool TooLong) → ClashLooked w → w ≡ Ok false → ClashTold false
  looked_no w t e us v = walks_past (Clash D text froms tos n us) w (t us v) e

  pub clash_long : (e : TooLong) → ClashLooked (Err e)
  clash_long e us v = walks_long (Clash D text froms tos n us) e

  module _ (heads links : List ℕ) (w : Result Bool TooLong) (t : Linked text froms tos heads links n w) where
    pub clash_met : w ≡ Ok true → ClashLooked (Ok true)
    unfolding Looks
    clash_met e us v = clash_within (linked_twice text froms tos heads links n w t e)

    pub clash_past : w ≡ Ok false → (v : Result Bool TooLong) → TouchedLooked D text froms tos n next v → ClashLooked v
    unfolding Looks
    clash_past e v u us y = by v (u us y)
      where
        by : (v : Result Bool TooLong) → Looks (Touched D text froms tos n us) v → Looks (Clash D text froms tos n us) v
        by (Ok true) x = clash_behind x
        by (Ok false) x = clash_none D text froms tos (linked_once text froms tos heads links n w t e) x
        by (Err e) x = tt

  module _ (order : List ℕ) (b : Bool) (t : Ranged text froms tos order n b) where
    pub clash_yes : b ≡ true → ClashTold true
    clash_yes e us v = clash_within (ranged_twice text froms tos order n b t e)

    pub clash_no : b ≡ false → (v : Bool) → TouchedTold D text froms tos n next v → ClashTold v
    clash_no e v u us y = by v (u us y)
      where
        by : (v : Bool) → Tells (Touched D text froms tos n us) v → Tells (Clash D text froms tos n us) v
        by true x = clash_behind x
        by false x = clash_none D text froms tos (ranged_once text froms tos order n b t e) x

-- ---- rooms for a window, with nothing in them

pub record Rooms (froms tos heads links : List ℕ) : Type 0 where
  pub some : 0 < length froms
  pub few : length froms ≤ 8192
  pub even : length tos ≡ length froms
  pub wide : length froms ≤ length links
  pub many : length heads ≡ 4096
  pub no_heads : (m : ℕ) → get_or heads m 0 ≡ 0
  pub no_links : (j : ℕ) → get_or links j 0 ≡ 0

pub rooms_first : (froms tos heads links : ℕ) → 0 < froms → froms ≤ 8192 → froms ≡ tos → heads ≡ 4096 → froms ≡ links → Rooms (replicate froms 0) (replicate tos 0) (replicate heads 0) (replicate links 0)
rooms_first froms tos heads links l m d e f =
    record {
      some = omega (arith, length-replicate {A = ℕ} froms 0);
      few = omega (arith, length-replicate {A = ℕ} froms 0);
      even = omega (arith, length-replicate {A = ℕ} froms 0, length-replicate {A = ℕ} tos 0);
      wide = omega (arith, length-replicate {A = ℕ} froms 0, length-replicate {A = ℕ} links 0);
      many = length-replicate {A = ℕ} heads 0 ∙ e;
      no_heads = zeros heads;
      no_links = zeros links;
    }

pub rooms_starting : (text froms tos heads links froms' tos' : List ℕ) (n : ℕ) → Rooms froms tos heads links → length froms' ≡ length froms → Held text froms' tos' n → Starting text froms' tos' heads links n
rooms_starting text froms tos heads links froms' tos' n r e h =
    record { held = h; room = omega (arith, h.from_room, r.wide); chains = chains_none (text_keys text froms' tos') heads links r.many r.no_heads r.no_links }

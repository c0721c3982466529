-- Laws of values and their members in a content that is cut, as `search` takes them. Assumes nothing.
use mathlib.Core.Path.{◌≡◌, refl, sym, subst}
use mathlib.Core.List.{List}
use mathlib.Core.Bool.{Bool, true, false}
use Prim.Native.Nat.{ℕ, suc, ◌+◌, ◌-◌, ◌≤◌, ◌<◌}
use native.Mathlib.Omega.{arith}
use mir.Syntax.{w64}
use mir.Val.{Fits}
use borrow.Author.Rules.{rules}
use Rattle.exact.specs.Tells.{Tells, tells_yes, tells_no}
use Rattle.language.specs.Lent.{lent}
use Rattle.language.specs.Tree.{Forest}
use Rattle.sound.specs.Distinct.{Distinct}
use Rattle.sound.specs.Members.{Sane, One, IsKey, Member, container_kind, Many, array_distinct, few_members}
use Rattle.views.specs.Joined.{within}
use Rattle.views.specs.Views.{viewed, view_less, Content, Deeper, deeper_view}
use Rattle.views.specs.Extents.{Whole}
use Rattle.std.specs.declared.option.Option.{Option}
use Rattle.std.specs.declared.option.Option.TheVariants.{Some, None}
use Rattle.wide.specs.declared.Walked.{Walked}
use Rattle.wide.specs.Tests.{Good, Stand, Tests, element_tests, keyless_tests, pair_good, pair_bad}
use Rattle.wide.specs.Walk.{Passed, passed_none, passed_more, passed_bad, Went}
use Rattle.wide.specs.Cut.{container_deep, container_bad, closed_good, closed_bad}
use Rattle.cutvalues.specs.declared.runs.Ran.{Ran}
use Rattle.cutvalues.specs.Both.{member_some, member_least, many_least, passed_both, passed_stuck}
use Rattle.cutvalues.specs.Runs.{ran, RanOn, Further, Stretched, Closing, ClosedTold}
use Rattle.cutvalues.proofs.CutLaws.{place_small, content_asked, depth_low}

-- ---- a member: an element, or a key and a value

module _ (v : List ℕ) (a stop k : ℕ) where
  pub child_element : (o : Bool) → o ≡ false → (q : Option Walked) → Tests v (One (Sane k)) a stop q → Tests v (Member o k) a stop q
  child_element o e q t = rw e (element_tests v k a stop q t)

  pub child_pair : (o : Bool) → o ≡ true → (q : Option Walked) → Tests v (Member true k) a stop q → Tests v (Member o k) a stop q
  child_pair o e q t = rw e t

pub ruleset childing = (child_element, child_pair, rules)

module _ (v : List ℕ) (a stop k : ℕ) where
  -- a place behind what is good
  pub place_on : (Q : Forest → Type 0) (q : Option Walked) → Tests v Q a stop q → (w : Walked) → q ≡ Some w → w.to ≤ stop
  place_on Q q t w h = let z : Tests v Q a stop (Some w) = rw h at t in z.below

  module _ (c : Option Walked) (t : Tests v (One IsKey) a stop c) where
    pub pair_keyless : c ≡ None → Tests v (Member true k) a stop None
    pair_keyless h = let z : Tests v (One IsKey) a stop None = rw h at t in keyless_tests v k a stop z

    module _ (x : Walked) (h : c ≡ Some x) (q : Option Walked) (s : Tests v (One (Sane k)) x.to stop q) where
      key_stand : Stand v (One IsKey) a stop x.to x.rows x.bytes
      key_stand = let z : Tests v (One IsKey) a stop (Some x) = rw h at t in z

      pub pair_valueless : q ≡ None → Tests v (Member true k) a stop None
      pair_valueless g = let z : Tests v (One (Sane k)) x.to stop None = rw g at s in pair_bad v k a stop key_stand z

      module _ (y : Walked) (g : q ≡ Some y) where
        value_stand : Stand v (One (Sane k)) x.to stop y.to y.rows y.bytes
        value_stand = let z : Tests v (One (Sane k)) x.to stop (Some y) = rw g at s in z

        pub pair_both : Tests v (Member true k) a stop (Good y.to (y.rows + 1) (x.bytes + y.bytes))
        pair_both = pair_good v k a stop key_stand y.to y.rows y.bytes value_stand

        module _ (few : stop ≤ lent) where
          pub pair_rows : Fits w64 (y.rows + 1)
          pair_rows = let p = pair_both in omega (arith, p.rows, p.end, p.below, member_least p.good, few)

          pub pair_bytes : Fits w64 (x.bytes + y.bytes)
          pair_bytes = let p = pair_both in omega (arith, p.text, p.end, p.below, member_least p.good, few)

-- few bytes
pub end_small : {stored starts : List ℕ} {d n : ℕ} → Content stored starts d n → n ≤ lent
end_small {n = n} h = place_small h n (omega arith)

pub ruleset pairing = (place_on, end_small, depth_low, pair_keyless, pair_valueless, pair_both, pair_rows, pair_bytes, rules)

-- ---- some members, and one behind them

-- few members, rows and bytes
module _ (v : List ℕ) {o : Bool} {k from end e n rows bytes : ℕ} (l : end ≤ lent) (p : Passed v o k from end e n rows bytes) where
  few_rows : rows ≤ lent
  few_rows = omega (arith, l, p.inside, p.place, p.count, many_least o p.many)

  few_bytes : bytes ≤ lent
  few_bytes = omega (arith, l, p.inside, p.place, p.text, many_least o p.many)

  few_count : n ≤ lent
  few_count = omega (arith, few_rows, p.count, few_members p.many)

module _ (u : List ℕ) (o : Bool) (k at n : ℕ) (r : Option Ran) (t : RanOn u o k at n r) where
  pub stretch_none : r ≡ None → Stretched u o k at n None
  stretch_none e = let z : RanOn u o k at n None = rw e at t in z

  module _ (f : Ran) (h : r ≡ Some f) where
    passed : Passed u o k at n f.end f.members f.rows f.bytes
    passed = let z : RanOn u o k at n (Some f) = rw h at t in z

    pub stretch_all : at < n → n ≤ f.end → Stretched u o k at n (Some f)
    stretch_all l i = record { passed = passed; ahead = omega arith }

    pub stretch_place : f.end ≤ n
    stretch_place = passed.inside

    module _ (q : Option Walked) (s : Tests u (Member o k) f.end n q) where
      pub stretch_bad : f.end < n → q ≡ None → Stretched u o k at n None
      stretch_bad l g = let z : Tests u (Member o k) f.end n None = rw g at s in passed_bad u o passed l z

      module _ (i : Walked) (g : q ≡ Some i) where
        next : Stand u (Member o k) f.end n i.to i.rows i.bytes
        next = let z : Tests u (Member o k) f.end n (Some i) = rw g at s in z

        both : Passed u o k at n i.to (f.members + 1) (f.rows + i.rows) (f.bytes + i.bytes)
        both = passed_more u o passed next

        pub stretch_more : Stretched u o k at n (ran i.to (f.members + 1) (f.rows + i.rows) (f.bytes + i.bytes))
        stretch_more = let p = passed in let s = next in record { passed = both; ahead = omega (arith, p.place, s.end, member_some s.good) }

        module _ (w : n ≤ lent) where
          pub stretch_rows : Fits w64 (f.rows + i.rows)
          stretch_rows = omega (arith, few_rows u w both)

          pub stretch_bytes : Fits w64 (f.bytes + i.bytes)
          stretch_bytes = omega (arith, few_bytes u w both)

          pub stretch_count : Fits w64 (f.members + 1)
          stretch_count = omega (arith, few_count u w both)

pub ruleset stretching = (end_small, stretch_none, stretch_all, stretch_place, stretch_bad, stretch_more, stretch_rows, stretch_bytes, stretch_count, rules)

-- ---- the loop over all

module _ (w : List ℕ) (o : Bool) (k n : ℕ) where
  pub going_first : Passed w o k 0 n 0 0 0 0
  going_first = passed_none w o (omega arith)

  module _ (at m rows bytes : ℕ) (g : Passed w o k 0 n at m rows bytes) where
    pub going_done : n ≤ at → Went w o k 0 n (Good m rows bytes)
    going_done l = let e : at ≡ n = omega (arith, g.inside) in subst (λ (i : ℕ). Passed w o k 0 n i m rows bytes) e g

    module _ (r : Option Ran) (t : Stretched w o k at n r) where
      pub going_bad : r ≡ None → Went w o k 0 n None
      going_bad e = let z : Stretched w o k at n None = rw e at t in passed_stuck w o g z

      module _ (f : Ran) (e : r ≡ Some f) where
        further : Further w o k at n f.end f.members f.rows f.bytes
        further = let z : Stretched w o k at n (Some f) = rw e at t in z

        pub going_more : Passed w o k 0 n f.end (m + f.members) (rows + f.rows) (bytes + f.bytes)
        going_more = passed_both w o g further.passed

        pub going_less : n - f.end < n - at
        going_less = let f = further in omega (arith, f.ahead, f.passed.inside)

        module _ (l : n ≤ lent) where
          pub going_rows : Fits w64 (rows + f.rows)
          going_rows = omega (arith, few_rows w l going_more)

          pub going_bytes : Fits w64 (bytes + f.bytes)
          going_bytes = omega (arith, few_bytes w l going_more)

          pub going_count : Fits w64 (m + f.members)
          going_count = omega (arith, few_count w l going_more)

pub ruleset going = (end_small, going_first, going_done, going_bad, going_more, going_less, going_rows, going_bytes, going_count, rules)

-- ---- a container

pub now_closing : (v : List ℕ) (o : Bool) (n k : ℕ) (q : Option Walked) → Went v o k 0 n q → (w : Walked) → q ≡ Some w → Closing v o n w.to
now_closing v o n k q t w e = let g : Went v o k 0 n (Some w) = rw e at t in record { allow = k; rows = w.rows; bytes = w.bytes; passed = g }

module _ (stored starts : List ℕ) (d at stop n end : ℕ) (o : Bool) (w : Whole (viewed stored starts d) at stop (container_kind o) n end) (allow : ℕ) where
  abbrev z : List ℕ
  z = viewed stored starts d

  pub no_allowance : allow ≡ 0 → Tests z (One (Sane allow)) at stop None
  no_allowance e = subst (λ (k : ℕ). Tests z (One (Sane k)) at stop None) (sym e) (container_deep z w o refl)

  module _ (f : allow ≡ 0 → ⊥) (x : List ℕ) (y : Deeper starts d at x) where
    one_more : (q : Option Walked) → Tests z (One (Sane (suc (allow - 1)))) at stop q → Tests z (One (Sane allow)) at stop q
    one_more q t = subst (λ (k : ℕ). Tests z (One (Sane k)) at stop q) (let e : suc (allow - 1) ≡ allow = omega arith in e) t

    pub inside_asked : d + allow ≤ 32 → {m : ℕ} → Content stored starts d m → Content stored x (d + 1) n
    inside_asked l h = content_asked stored starts d at stop (container_kind o) n end w x y (omega arith) h

    module _ (q : Option Walked) (t : Went (viewed stored x (d + 1)) o (allow - 1) 0 n q) where
      pub no_members : q ≡ None → Tests z (One (Sane allow)) at stop None
      no_members e =
          let g : Went (viewed stored x (d + 1)) o (allow - 1) 0 n None = rw e at t in
          one_more None (container_bad z w o refl (subst (λ (u : List ℕ). Went u o (allow - 1) 0 n None) (deeper_view stored y) g))

      module _ (c : Walked) (e : q ≡ Some c) where
        went : Passed (viewed stored x (d + 1)) o (allow - 1) 0 n n c.to c.rows c.bytes
        went = let g : Went (viewed stored x (d + 1)) o (allow - 1) 0 n (Some c) = rw e at t in g

        pub closing_rows : n ≤ lent → Fits w64 (c.rows + 1)
        closing_rows l = omega (arith, few_rows (viewed stored x (d + 1)) l went)

        module _ (b : Bool) (h : ClosedTold (viewed stored x (d + 1)) o n b) where
          within_passed : Passed (within z at) o (allow - 1) 0 n n c.to c.rows c.bytes
          within_passed = subst (λ (u : List ℕ). Passed u o (allow - 1) 0 n n c.to c.rows c.bytes) (deeper_view stored y) went

          within_told : ClosedTold (within z at) o n b
          within_told = subst (λ (u : List ℕ). ClosedTold u o n b) (deeper_view stored y) h

          told : Tells (Distinct within_passed.front) b
          told = within_told.told (allow - 1) c.to c.rows c.bytes within_passed

          pub closing_good : b ≡ true → Tests z (One (Sane allow)) at stop (Good end (c.rows + 1) c.bytes)
          closing_good g = one_more (Good end (c.rows + 1) c.bytes) (closed_good z w refl within_passed (tells_yes b g told))

          pub closing_twice : b ≡ false → Tests z (One (Sane allow)) at stop None
          closing_twice g = one_more None (by o refl)
            where
              by : (i : Bool) → i ≡ o → Tests z (One (Sane (suc (allow - 1)))) at stop None
              by true i = closed_bad z w refl within_passed (sym i) (tells_no b g told)
              by false i = absurd (tells_no b g told (array i))
                where
                  array : false ≡ o → Distinct within_passed.front
                  array e = array_distinct (subst (λ (j : Bool). Many (Member j (allow - 1)) c.to within_passed.front) (sym e) within_passed.many)

pub below_fits : (d allow : ℕ) → d + allow ≤ 32 → Fits w64 (d + 1)
below_fits d allow l = omega arith

pub below_deep : (d allow : ℕ) → d + allow ≤ 32 → d + 1 < 34
below_deep d allow l = omega arith

pub below_allow : (d allow : ℕ) → (allow ≡ 0 → ⊥) → d + allow ≤ 32 → d + 1 + (allow - 1) ≤ 32
below_allow d allow f l = omega arith

pub ruleset containing = (place_small, end_small, depth_low, below_fits, below_deep, below_allow, no_allowance, inside_asked, no_members, now_closing, closing_rows, closing_good, closing_twice, rules)

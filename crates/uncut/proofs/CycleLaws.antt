-- Laws of values and their members in stored bytes, as `search` takes them. Assumes nothing.
use mathlib.Core.Path.{◌≡◌, refl, sym, subst}
use mathlib.Core.List.{List}
use mathlib.Core.Bool.{Bool, true, false}
use Prim.Native.Nat.{ℕ, suc, ◌+◌, ◌-◌, ◌≤◌, ◌<◌}
use native.Mathlib.Omega.{arith}
use lib.ListN.{length, get_or}
use lib.Seq.{slice}
use mir.Syntax.{w64}
use mir.Val.{Fits}
use borrow.Author.Rules.{rules}
use Rattle.exact.specs.Tells.{Tells, tells_yes, tells_no}
use Rattle.language.specs.Tree.{Tree, Forest}
use Rattle.shaped.specs.Shaped.{Scripted, Scalar}
use Rattle.uncut.specs.Short.{longest}
use Rattle.sound.specs.Distinct.{Distinct}
use Rattle.sound.specs.Members.{Sane, One, IsKey, Member, container_kind, Many, many_pairs, some_member, few_members}
use Rattle.std.specs.declared.option.Option.{Option}
use Rattle.std.specs.declared.option.Option.TheVariants.{Some, None}
use Rattle.uncut.specs.declared.tested.Tested.{Tested}
use Rattle.uncut.specs.declared.tested.Several.{Several}
use Rattle.uncut.specs.Heads.{Behind, Lies, Whole, Field}
use Rattle.uncut.specs.Tested.{Good, NoContainer, few_forms, Stand, Tests, none_alone, whole_field, no_field, field_tests, key_stands, key_other, key_none, scalar_stands, scalar_none, element_tests, keyless_tests, pair_good, pair_bad}
use Rattle.uncut.specs.Walk.{Passed, passed_none, passed_more, passed_bad, Went}
use Rattle.uncut.specs.Containers.{Closing, container_has, closed_good, closed_bad, closed_array}
use Rattle.uncut.specs.Keys.{Keys, Counted, ApartTold}

-- ---- a whole field before `stop`, or none

module _ (stored : List ℕ) (a stop : ℕ) (w : Lies stored a stop) (b : Bool) (t : Tells (Whole stored a stop) b) where
  pub field_none : (P : Tree → Type 0) → b ≡ false → Tests stored (One P) a stop None
  field_none P e = no_field stored w (tells_no b e t)

  module _ (h : b ≡ true) where
    pub field_begins : a + 3 ≤ length stored
    field_begins = let z = tells_yes b h t in omega (arith, z.begins, w.inside)

    pub field_few : a ≤ longest
    field_few = omega (arith, w.order, w.few)

    pub field_inside : a < length stored
    field_inside = omega (arith, field_begins)

    module _ (e : ℕ) (f : Behind stored a e) where
      pub field_whole : Field stored a e
      field_whole = whole_field stored w (tells_yes b h t) f

      pub field_told : (P : Tree → Type 0) (q : Option Tested) → Tests stored (One P) a e q → Tests stored (One P) a stop q
      field_told P q z = field_tests stored P a e stop f.is (let y = tells_yes b h t in omega (arith, f.is, y.ends)) q z

-- a scalar's tag
pub tag_low : (stored : List ℕ) (a : ℕ) → get_or stored a 0 < 8 → NoContainer stored a
tag_low stored a l = record { no_array = λ e. omega arith; no_object = λ e. omega arith }

pub ruleset fielding = (field_none, field_begins, field_few, field_inside, field_whole, field_told, tag_low, rules)

-- ---- a key, and a scalar

module _ (stored : List ℕ) (a e : ℕ) (f : Field stored a e) where
  pub tag_inside : a < length stored
  tag_inside = omega (arith, f.begins, f.inside)

  pub text_fits : Fits w64 (a + 3)
  text_fits = omega (arith, f.begins, f.few)

  pub text_order : a + 3 ≤ e
  text_order = f.begins

  pub text_within : e ≤ length stored
  text_within = f.inside

  pub named_other : (get_or stored a 0 ≡ 10 → ⊥) → Tests stored (One IsKey) a e None
  named_other n = key_other stored f n

  module _ (b : Bool) (t : Tells (Scripted (slice (a + 3) e stored)) b) where
    pub named_good : get_or stored a 0 ≡ 10 → b ≡ true → Tests stored (One IsKey) a e (Good e 1)
    named_good g h = key_stands stored f g (tells_yes b h t)

    pub named_bad : b ≡ false → Tests stored (One IsKey) a e None
    named_bad h = key_none stored f (tells_no b h t)

  module _ (k c : ℕ) (d : c ≡ get_or stored a 0) (b : Bool) (u : Tells (Scalar c (slice (a + 3) e stored)) b) where
    t : Tells (Scalar (get_or stored a 0) (slice (a + 3) e stored)) b
    t = rw d at u

    pub scalar_good : b ≡ true → Tests stored (One (Sane k)) a e (Good e 1)
    scalar_good h = scalar_stands stored f (tells_yes b h t)

    pub scalar_bad : NoContainer stored a → b ≡ false → Tests stored (One (Sane k)) a e None
    scalar_bad n h = scalar_none stored f n (tells_no b h t)

pub ruleset leafing = (tag_inside, text_fits, text_order, text_within, named_other, named_good, named_bad, scalar_good, scalar_bad, rules)

-- ---- by the tag

module _ (stored : List ℕ) (a : ℕ) where
  pub tag_array : get_or stored a 0 ≡ 8 → get_or stored a 0 ≡ container_kind false
  tag_array h = h

  pub tag_object : get_or stored a 0 ≡ 9 → get_or stored a 0 ≡ container_kind true
  tag_object h = h

  pub tag_other : (get_or stored a 0 ≡ 8 → ⊥) → (get_or stored a 0 ≡ 9 → ⊥) → NoContainer stored a
  tag_other m n = record { no_array = m; no_object = n }

pub ruleset tagging = (tag_inside, tag_array, tag_object, tag_other, rules)

-- ---- a member: an element, or a key and a value

module _ (stored : List ℕ) (a stop k : ℕ) where
  pub child_element : (o : Bool) → o ≡ false → (q : Option Tested) → Tests stored (One (Sane k)) a stop q → Tests stored (Member o k) a stop q
  child_element o e q t = rw e (element_tests stored k a stop q t)

  pub child_pair : (o : Bool) → o ≡ true → (q : Option Tested) → Tests stored (Member true k) a stop q → Tests stored (Member o k) a stop q
  child_pair o e q t = rw e t

  -- what is asked behind what was good
  pub lies_on : (Q : Forest → Type 0) (v : Tested) (q : Option Tested) → Tests stored Q a stop q → q ≡ Some v → Lies stored a stop → Lies stored v.to stop
  lies_on Q v q t h w = let z : Tests stored Q a stop (Some v) = rw h at t in record { order = z.below; inside = w.inside; few = w.few }

  module _ (c : Option Tested) (t : Tests stored (One IsKey) a stop c) where
    pub pair_keyless : c ≡ None → Tests stored (Member true k) a stop None
    pair_keyless h = let z : Tests stored (One IsKey) a stop None = rw h at t in keyless_tests stored k a stop z

    module _ (x : Tested) (h : c ≡ Some x) (q : Option Tested) (s : Tests stored (One (Sane k)) x.to stop q) where
      key_stand : Stand stored (One IsKey) a stop x.to x.rows
      key_stand = let z : Tests stored (One IsKey) a stop (Some x) = rw h at t in z

      pub pair_valueless : q ≡ None → Tests stored (Member true k) a stop None
      pair_valueless g = let z : Tests stored (One (Sane k)) x.to stop None = rw g at s in pair_bad stored k a stop key_stand z

      module _ (y : Tested) (g : q ≡ Some y) where
        value_stand : Stand stored (One (Sane k)) x.to stop y.to y.rows
        value_stand = let z : Tests stored (One (Sane k)) x.to stop (Some y) = rw g at s in z

        pub pair_both : Tests stored (Member true k) a stop (Good y.to (y.rows + 1))
        pair_both = pair_good stored k a stop key_stand y.to y.rows value_stand

        pub pair_rows : Lies stored a stop → Fits w64 (y.rows + 1)
        pair_rows w = let v = value_stand in omega (arith, v.rows, v.end, v.below, few_forms v.members, w.few)

pub ruleset childing = (child_element, child_pair, rules)

pub ruleset pairing = (lies_on, pair_keyless, pair_valueless, pair_both, pair_rows, rules)

-- ---- the loop over them

-- at the loop's head: n members are passed, up to `at`, with so many rows
pub record Going (stored : List ℕ) (o : Bool) (k from end at n rows : ℕ) : Type 0 where
  pub lies : Lies stored at end
  pub passed : Passed stored o k from end at n rows

module _ (stored : List ℕ) (o : Bool) (k from end : ℕ) where
  pub going_first : Lies stored from end → Going stored o k from end from 0 0
  going_first w = record { lies = w; passed = passed_none stored o w.order }

  module _ (at n rows : ℕ) (w : Going stored o k from end at n rows) where
    pub going_lies : Lies stored at end
    going_lies = w.lies

    pub going_done : end ≤ at → Went stored o k from end (Some (record { count = n; rows = rows }))
    going_done l = let e : at ≡ end = omega (arith, w.lies.order) in subst (λ (i : ℕ). Passed stored o k from end i n rows) e w.passed

    module _ (l : at < end) (q : Option Tested) (t : Tests stored (Member o k) at end q) where
      pub going_bad : q ≡ None → Went stored o k from end None
      going_bad e = let z : Tests stored (Member o k) at end None = rw e at t in passed_bad stored o w.passed l z

      module _ (m : Tested) (e : q ≡ Some m) where
        stands : Stand stored (Member o k) at end m.to m.rows
        stands = let z : Tests stored (Member o k) at end (Some m) = rw e at t in z

        pub going_more : Going stored o k from end m.to (n + 1) (rows + m.rows)
        going_more = record { lies = lies_on stored at end k (Member o k) m q t e w.lies; passed = passed_more stored o w.passed stands }

        pub going_less : end - m.to < end - at
        going_less = let s = stands in omega (arith, s.end, s.below, few_forms s.members, some_member s.good)

        pub going_rows : Fits w64 (rows + m.rows)
        going_rows = let g = going_more in let p = g.passed in omega (arith, p.count, few_forms p.front, p.place, p.inside, w.lies.few)

        pub going_count : Fits w64 (n + 1)
        going_count = let g = going_more in let p = g.passed in omega (arith, few_members p.many, few_forms p.front, p.place, p.inside, w.lies.few)

pub ruleset going = (going_first, going_lies, going_done, going_bad, going_more, going_less, going_rows, going_count, rules)

-- ---- a container

module _ (stored : List ℕ) (a e : ℕ) (o : Bool) (f : Field stored a e) (g : get_or stored a 0 ≡ container_kind o) where
  pub container_lies : Lies stored (a + 3) e
  container_lies = record { order = f.begins; inside = f.inside; few = f.few }

  module _ (allow : ℕ) where
    pub no_allowance : allow ≡ 0 → Tests stored (One (Sane allow)) a e None
    no_allowance h = none_alone stored (λ t s i l. let z = container_has stored o t f g s i in omega (arith, z.one_less))

    module _ (n : allow ≡ 0 → ⊥) (q : Option Several) (t : Went stored o (allow - 1) (a + 3) e q) where
      pub no_members : q ≡ None → Tests stored (One (Sane allow)) a e None
      no_members h =
          let z : Went stored o (allow - 1) (a + 3) e None = rw h at t in
          none_alone stored
          (λ u s i l.
          let y = container_has stored o u f g s i in
          let v : y.allow ≡ allow - 1 = omega (arith, y.one_less) in
          z y.count y.children (subst (λ (c : ℕ). Many (Member o c) y.count y.children) v y.many) y.here y.total)

      pub now_closing : (m : Several) → q ≡ Some m → Closing stored a e (allow - 1) o m.count m.rows
      now_closing m h = let z : Went stored o (allow - 1) (a + 3) e (Some m) = rw h at t in record { field = f; kind = g; passed = z }

  pub one_more : (allow : ℕ) → (allow ≡ 0 → ⊥) → (c : Option Tested) → Tests stored (One (Sane (suc (allow - 1)))) a e c → Tests stored (One (Sane allow)) a e c
  one_more allow n c z = subst (λ (k : ℕ). Tests stored (One (Sane k)) a e c) (let v : suc (allow - 1) ≡ allow = omega arith in v) z

pub ruleset containing = (text_fits, container_lies, no_allowance, no_members, now_closing, one_more, rules)

-- ---- .. whose members are passed

module _ (stored : List ℕ) (a e k : ℕ) (o : Bool) (n rows : ℕ) (w : Closing stored a e k o n rows) where
  pub closing_from : Fits w64 (a + 3)
  closing_from = omega (arith, w.field.begins, w.field.few)

  pub closing_rows : Fits w64 (rows + 1)
  closing_rows = let p = w.passed in omega (arith, p.count, few_forms p.front, p.place, w.field.few)

  pub closing_array : o ≡ false → Tests stored (One (Sane (suc k))) a e (Good e (rows + 1))
  closing_array h = closed_array stored w h

  module _ (h : o ≡ true) where
    keys : Keys stored (a + 3) e
    keys =
        let p = w.passed in
        record {
          allow = k;
          count = n;
          trees = p.front;
          pairs = many_pairs (subst (λ (b : Bool). Many (Member b k) n p.front) h p.many);
          here = p.here;
          total = sym p.place;
          inside = w.field.inside;
          few = w.field.few;
        }

    pub closing_keys : Counted stored (a + 3) e n
    unfolding keys
    closing_keys = record { keys = keys; are = refl }

    module _ (b : Bool) (t : ApartTold stored (a + 3) e b) where
      told : Tells (Distinct w.passed.front) b
      unfolding keys
      told = t keys

      pub closing_object : b ≡ true → Tests stored (One (Sane (suc k))) a e (Good e (rows + 1))
      closing_object g = closed_good stored w (tells_yes b g told)

      pub closing_twice : b ≡ false → Tests stored (One (Sane (suc k))) a e None
      closing_twice g = closed_bad stored w h (tells_no b g told)

pub ruleset closing = (closing_from, closing_rows, closing_array, closing_keys, closing_object, closing_twice, rules)

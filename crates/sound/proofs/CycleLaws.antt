-- Laws of values and their children, as `search` takes them. Assumes nothing.
use mathlib.Core.Path.{◌≡◌, refl, sym, ap, subst, ◌∙◌}
use mathlib.Core.List.{List}
use mathlib.Core.Bool.{Bool, true, false}
use Prim.Native.Nat.{ℕ, suc, ◌+◌, ◌*◌, ◌-◌, ◌≤◌, ◌<◌}
use native.Mathlib.Omega.{arith}
use native.Mathlib.Nat.{add-zero}
use mir.Syntax.{w64}
use mir.Val.{Fits}
use lib.ListN.{length, get_or}
use borrow.Author.Rules.{rules}
use Rattle.exact.specs.Tells.{Tells, tells_yes, tells_no, tells_map}
use Rattle.language.specs.Kind.{OBJECT}
use Rattle.language.specs.Tree.{Tree, node, Forest, width}
use Rattle.shaped.specs.Shaped.{shaped_object}
use Rattle.shaped.specs.RowsAt.{RowsAt, node_at}
use Rattle.shaped.specs.Told.{rows_tell}
use Rattle.shaped.specs.Once.{alike_once}
use Rattle.std.specs.declared.option.Option.{Option}
use Rattle.std.specs.declared.option.Option.TheVariants.{Some, None}
use Rattle.sound.specs.declared.Tested.{Tested}
use Rattle.sound.specs.declared.Several.{Several}
use Rattle.sound.specs.Distinct.{Distinct, once_distinct}
use Rattle.sound.specs.Members.{Sane, One, IsKey, Member, container_kind, Many, many_pairs, array_distinct, some_member, few_members}
use Rattle.sound.specs.Tested.{Good, Lies, Stand, Tests, stand_inside, none_alone}
use Rattle.sound.specs.Walk.{Passed, passed_none, passed_more, passed_bad, passed_count}
use Rattle.sound.specs.Pairs.{element_tests, keyless_tests, pair_tests}
use Rattle.sound.specs.Rows.{kind_at, parent_at, Words, Container, container_words, container_stands, other_none}
use Rattle.sound.specs.Contract.{Whole, Row, Went, Closing}
use Rattle.distinct.specs.Roads.{ApartTold}
use Rattle.distinct.specs.Windows.{Open}
use Rattle.sound.specs.Keys.{object_keys, Rows, pairs_rows}
use Rattle.sound.proofs.RowLaws.{row_past, row_parent}

-- ---- a child: an element, or a key and a value

module _ (table text : List ℕ) (stop r p x : ℕ) where
  -- what is asked behind what was good
  pub lies_on : (Q : Forest → Type 0) (v : Tested) (q : Option Tested) → Tests table text Q stop r p x q → q ≡ Some v → Lies table text stop x → Lies table text stop v.text
  lies_on Q v q t e w =
      let z : Tests table text Q stop r p x (Some v) = rw e at t in
      record { whole = w.whole; few = w.few; inside = stand_inside table text z }

  module _ (k : ℕ) (o : Bool) where
    pub child_element : o ≡ false → (q : Option Tested) → Tests table text (One (Sane k)) stop r p x q → Tests table text (Member o k) stop r p x q
    child_element e q t = rw e (element_tests table text k stop r p x q t)

    module _ (c : Option Tested) (t : Tests table text (One IsKey) stop r p x c) (e : o ≡ true) where
      pub child_keyless : c ≡ None → Tests table text (Member o k) stop r p x None
      child_keyless h = let z : Tests table text (One IsKey) stop r p x None = rw h at t in rw e (keyless_tests table text k stop r p x z)

      pub child_pair : (v : Tested) → c ≡ Some v → (q : Option Tested) → Tests table text (One (Sane k)) stop v.row p v.text q → Tests table text (Member o k) stop r p x q
      child_pair v h q s = let z : Tests table text (One IsKey) stop r p x (Some v) = rw h at t in rw e (pair_tests table text k stop r p x v.row v.text z q s)

pub ruleset childing = (lies_on, child_element, child_keyless, child_pair, rules)

-- ---- the loop over them

-- at the loop's head: n children are passed, up to row `at` and text byte y
pub record Going (table text : List ℕ) (o : Bool) (k r x end at y n : ℕ) : Type 0 where
  pub lies : Lies table text end y
  pub passed : Passed table text o k r (r + 1) x end at y n

module _ (table text : List ℕ) (o : Bool) (k r x end : ℕ) where
  pub going_first : Lies table text end x → r < end → Going table text o k r x end (r + 1) x 0
  going_first w l = record { lies = w; passed = passed_none table text o k r (r + 1) x end w.inside (omega arith) }

  pub going_row : (at : ℕ) → Lies table text end x → r < end → at ≡ r → Fits w64 (at + 1)
  going_row at w l e = omega (arith, w.few)

  module _ (at y n : ℕ) (w : Going table text o k r x end at y n) where
    pub going_lies : Lies table text end y
    going_lies = w.lies

    pub going_count : Fits w64 (n + 1)
    going_count = let p = w.passed in omega (arith, few_members p.many, p.row, p.inside, w.lies.few)

    pub going_done : end ≤ at → Went table text o k r x end (Some (record { count = n; text = y }))
    going_done l = let p = w.passed in let e : at ≡ end = omega (arith, p.inside) in subst (λ (i : ℕ). Passed table text o k r (r + 1) x end i y n) e p

    module _ (l : at < end) (q : Option Tested) (t : Tests table text (Member o k) end at r y q) where
      pub going_bad : q ≡ None → Went table text o k r x end None
      going_bad e = let z : Tests table text (Member o k) end at r y None = rw e at t in passed_bad table text o k r (r + 1) x end at y n w.passed l z

      module _ (m : Tested) (e : q ≡ Some m) where
        stands : Stand table text (Member o k) end at r y m.row m.text
        stands = let z : Tests table text (Member o k) end at r y (Some m) = rw e at t in z

        pub going_more : Going table text o k r x end m.row m.text (n + 1)
        going_more = record { lies = lies_on table text end at r y (Member o k) m q t e w.lies; passed = passed_more table text o k r (r + 1) x end at y n w.passed l m.row m.text stands }

        pub going_less : end - m.row < end - at
        going_less = omega (arith, stands.next, some_member stands.good, stands.below)

pub ruleset going = (going_first, going_row, going_lies, going_count, going_done, going_bad, going_more, going_less, rules)

-- ---- a container

module _ (table text : List ℕ) (stop r x : ℕ) (o : Bool) (w : Row table text stop r x) (g : kind_at table r ≡ container_kind o) where
  pub row_inside : (j : ℕ) → j < width → width * r + j < length table
  row_inside j l = omega (arith, w.lies.whole, w.below)

  held : (a : ℕ) (t : Tree) → Sane a t → RowsAt table text r (parent_at table r) x t → Container table text r (parent_at table r) x o a t
  held a t s h = container_words table text r (parent_at table r) x o a t s h g

  module _ (allow : ℕ) where
    abbrev Nothing : Type 0
    Nothing = Tests table text (One (Sane allow)) stop r (parent_at table r) x None

    pub no_allowance : allow ≡ 0 → Nothing
    no_allowance e = none_alone table text (λ t s h l. let z = held allow t s h in omega (arith, z.one_less))

    module _ (end : ℕ) (e : end ≡ get_or table (width * r + 6) 0) where
      pub no_end : end ≤ r → Nothing
      no_end l = none_alone table text (λ t s h i. let z = held allow t s h in omega (arith, z.words.next_is))

      pub past_end : stop < end → Nothing
      past_end l = none_alone table text (λ t s h i. let z = held allow t s h in omega (arith, z.words.next_is, z.rows))

      pub lies_within : end ≤ stop → Lies table text end x
      lies_within l = record { whole = omega (arith, w.lies.whole); few = omega (arith, w.lies.few); inside = w.lies.inside }

      module _ (n : allow ≡ 0 → ⊥) (q : Option Several) (t : Went table text o (allow - 1) r x end q) where
        pub no_children : q ≡ None → Nothing
        no_children h =
            let z : Went table text o (allow - 1) r x end None = rw h at t in
            none_alone table text
            (λ u s i j.
            let y = held allow u s i in
            let v : y.allow ≡ allow - 1 = omega (arith, y.one_less) in
            z y.count y.children (subst (λ (a : ℕ). Many (Member o a) y.count y.children) v y.many) y.stand (omega (arith, y.words.next_is)))

        pub now_closing : (m : Several) → q ≡ Some m → end ≤ stop → Closing table text stop r x (allow - 1) o m.count m.text
        now_closing m h l =
            let z : Went table text o (allow - 1) r x end (Some m) = rw h at t in
            record { row = w; kind = g; below = omega arith; passed = subst (λ (i : ℕ). Passed table text o (allow - 1) r (r + 1) x i i m.text m.count) e z }

  pub one_more : (p allow : ℕ) → (allow ≡ 0 → ⊥) → (c : Option Tested) → Tests table text (One (Sane (suc (allow - 1)))) stop r p x c → Tests table text (One (Sane allow)) stop r p x c
  one_more p allow n c z = subst (λ (a : ℕ). Tests table text (One (Sane a)) stop r p x c) (let v : suc (allow - 1) ≡ allow = omega arith in v) z

pub ruleset containing = (row_inside, no_allowance, no_end, past_end, lies_within, no_children, now_closing, one_more, rules)

-- ---- .. whose members are passed

module _ (table text : List ℕ) (stop r x k : ℕ) (o : Bool) (n y : ℕ) (w : Closing table text stop r x k o n y) where
  abbrev p : ℕ
  p = parent_at table r

  abbrev last : ℕ
  last = get_or table (width * r + 6) 0

  pub closing_inside : (j : ℕ) → j < width → width * r + j < length table
  closing_inside j l = omega (arith, w.row.lies.whole, w.row.below)

  pub closing_whole : Whole table r
  closing_whole = omega (arith, w.row.lies.whole, w.row.below)

  closing_held : (t : Tree) → Sane (suc k) t → RowsAt table text r p x t → Container table text r p x o (suc k) t
  closing_held t s h = container_words table text r p x o (suc k) t s h w.kind

  pub closing_from : r + 1 ≤ last
  closing_from = omega (arith, w.passed.row)

  pub closing_lies : (end : ℕ) → end ≡ last → Lies table text end 0
  closing_lies end e = record { whole = omega (arith, w.row.lies.whole, w.below); few = omega (arith, w.row.lies.few, w.below); inside = omega arith }

  module _ (end : ℕ) (e : end ≡ last) (b : Bool) (t : Tells (Words table r 0 n end) b) where
    -- another count
    pub closed_count : b ≡ false → Tests table text (One (Sane (suc k))) stop r p x None
    closed_count h =
        none_alone table text
        (λ u s i j.
        let z = closing_held u s i in
        let v : z.allow ≡ k = omega (arith, z.one_less) in
        let m = passed_count table text o k r (r + 1) x last last y n w.passed (omega arith) z.count z.children (subst (λ (a : ℕ). Many (Member o a) z.count z.children) v z.many) z.stand (sym z.words.next_is) in
        tells_no b h t (record { from_is = z.words.from_is; to_is = z.words.to_is ∙ m; next_is = sym e }))

    words : b ≡ true → Words table r 0 n last
    words h = subst (Words table r 0 n) e (tells_yes b h t)

    good : b ≡ true → Distinct w.passed.front → Tests table text (One (Sane (suc k))) stop r p x (Good end y)
    good h d =
        subst (λ (i : ℕ). Stand table text (One (Sane (suc k))) stop r p x i y) (sym e)
        (container_stands table text r p x o k stop last y n w.kind refl (words h) w.passed d w.below)

    pub closed_array : b ≡ true → o ≡ false → Tests table text (One (Sane (suc k))) stop r p x (Good end y)
    closed_array h f = good h (array_distinct (subst (λ (c : Bool). Many (Member c k) n w.passed.front) f w.passed.many))

    module _ (h : b ≡ true) (f : o ≡ true) where
      many : Many (Member true k) n w.passed.front
      many = subst (λ (a : Bool). Many (Member a k) n w.passed.front) f w.passed.many

      rows : Rows table text end (r + 1) w.passed.front
      rows = pairs_rows table text end (r + 1) r x (many_pairs many) w.passed.stand (omega (arith, w.passed.row)) (closing_lies end e).whole (closing_lies end e).few

      pub closing_keys : Open (object_keys table text end) (r + 1)
      closing_keys = record { rows = rows.rows; walks = rows.walks }

      module _ (c : Bool) (s : ApartTold (object_keys table text end) (r + 1) c) where
        told : Tells (Distinct w.passed.front) c
        told = tells_map rows.distinct rows.apart c (s rows.rows rows.walks)

        pub closed_object : c ≡ true → Tests table text (One (Sane (suc k))) stop r p x (Good end y)
        closed_object i = good h (tells_yes c i told)

        -- the object as it stands, whatever its keys
        standing : RowsAt table text r p x (node OBJECT 0 0 n w.passed.front)
        standing =
            let v = words h in
            node_at table text
            (record {
              kind_is = w.kind ∙ ap container_kind f;
              from_is = v.from_is;
              to_is = v.to_is;
              parent_is = refl;
              next_is = omega (arith, w.passed.row);
            })
            w.passed.stand

        pub closed_twice : c ≡ false → Tests table text (One (Sane (suc k))) stop r p x None
        closed_twice i =
            none_alone table text
            (λ u d a j.
            let g = rows_tell table text d.shaped (shaped_object (many_pairs many)) a standing in
            tells_no c i told (once_distinct (alike_once u (node OBJECT 0 0 n w.passed.front) g d.once)))

pub ruleset closing = (closing_inside, closing_whole, closing_keys, closed_count, closed_array, closed_object, closed_twice, rules)

-- ---- a value, by its parent and its kind

module _ (table text : List ℕ) (stop r x : ℕ) where
  pub value_row : Lies table text stop x → r < stop → Row table text stop r x
  value_row w l = record { lies = w; below = l }

  pub value_inside : (j : ℕ) → j < width → Lies table text stop x → r < stop → width * r + j < length table
  value_inside j i w l = omega (arith, w.whole)

  -- the row's own parent is the one asked for
  pub value_parent : (parent allow v : ℕ) → v ≡ get_or table (width * r + 5) 0 → v ≡ parent → (q : Option Tested) → Tests table text (One (Sane allow)) stop r (parent_at table r) x q
      → Tests table text (One (Sane allow)) stop r parent x q
  value_parent parent allow v e f q t = subst (λ (p : ℕ). Tests table text (One (Sane allow)) stop r p x q) (sym e ∙ f) t

pub ruleset valuing = (row_past, row_parent, value_row, value_inside, value_parent, rules)

module _ (table text : List ℕ) (stop r x : ℕ) (w : Row table text stop r x) where
  pub kind_inside : (j : ℕ) → j < width → width * r + j < length table
  kind_inside j l = omega (arith, w.lies.whole, w.below)

  module _ (k : ℕ) (e : k ≡ get_or table (width * r + 0) 0) where
    kind_is : kind_at table r ≡ k
    kind_is = ap (λ (c : ℕ). get_or table c 0) (sym (add-zero (width * r))) ∙ sym e

    pub keyword_least : 1 ≤ k → 1 ≤ kind_at table r
    keyword_least l = omega (arith, kind_is)

    pub keyword_most : k < 4 → kind_at table r ≤ 3
    keyword_most l = omega (arith, kind_is)

    pub scalar_least : 4 ≤ k → 3 < kind_at table r
    scalar_least l = omega (arith, kind_is)

    pub scalar_most : k < 8 → kind_at table r ≤ 7
    scalar_most l = omega (arith, kind_is)

    pub kind_array : k ≡ 8 → kind_at table r ≡ container_kind false
    kind_array h = kind_is ∙ h

    pub kind_object : k ≡ 9 → kind_at table r ≡ container_kind true
    kind_object h = kind_is ∙ h

    other : (allow : ℕ) → ((1 ≤ k) × (k ≤ 9) → ⊥) → Tests table text (One (Sane allow)) stop r (parent_at table r) x None
    other allow n =
        none_alone table text
        (λ t s h i. let z = other_none table text r (parent_at table r) x allow t s h in n (omega (arith, kind_is, z.0), omega (arith, kind_is, z.1)))

    pub kind_less : (allow : ℕ) → k < 1 → Tests table text (One (Sane allow)) stop r (parent_at table r) x None
    kind_less allow l = other allow (λ z. omega (arith, z.0))

    pub kind_more : (allow : ℕ) → 8 ≤ k → (k ≡ 8 → ⊥) → (k ≡ 9 → ⊥) → Tests table text (One (Sane allow)) stop r (parent_at table r) x None
    kind_more allow l m n = other allow (λ z. omega (arith, z.1, m, n))

pub ruleset kinding = (kind_inside, keyword_least, keyword_most, scalar_least, scalar_most, kind_array, kind_object, kind_less, kind_more, rules)

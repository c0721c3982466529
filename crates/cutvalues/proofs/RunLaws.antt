-- Laws of what stands whole in a run, as `search` takes them. Assumes nothing.
use mathlib.Core.Path.{◌≡◌, refl, sym, ap, subst, ◌∙◌}
use mathlib.Core.List.{List}
use mathlib.Core.Bool.{Bool, true, false}
use Prim.Native.Nat.{ℕ, ◌+◌, ◌-◌, ◌*◌, ◌≤◌, ◌<◌}
use native.Mathlib.Omega.{arith}
use lib.ListN.{length}
use mir.Syntax.{w64}
use mir.Val.{Fits}
use borrow.Author.Rules.{rules}
use Rattle.exact.specs.Tells.{Tells, tells_yes, tells_no}
use Rattle.language.specs.Lent.{lent}
use Rattle.language.specs.Tree.{Forest}
use Rattle.sound.specs.Members.{Member, some_member, few_members}
use Rattle.uncut.specs.Short.{longest}
use Rattle.uncut.specs.declared.tested.Tested.{Tested}
use Rattle.uncut.specs.Heads.{Behind, Lies, Whole}
use Rattle.uncut.specs.Tested.{few_forms, Stand, Tests}
use Rattle.uncut.specs.Walk.{Passed, passed_none, passed_more}
use Rattle.std.specs.declared.option.Option.{Option}
use Rattle.std.specs.declared.option.Option.TheVariants.{Some, None}
use Rattle.wide.specs.declared.Walked.{Walked}
use Rattle.wide.specs.Tests as wide
use Rattle.cutvalues.specs.Bridge.{Heads}
use Rattle.cutvalues.specs.Runs.{moved_to, Movable, Met, Stuck, Seen, Several}

-- ---- told from a place on

module _ (at : ℕ) (t : Option Tested) where
  pub moved_bad : t ≡ None → None ≡ moved_to at t
  moved_bad e = rw e refl

  module _ (v : Tested) (e : t ≡ Some v) where
    pub moved_good : wide.Good (at + v.to) v.rows (v.to - 3 * v.rows) ≡ moved_to at t
    moved_good = rw e refl

    module _ (w : Movable at t) where
      pub moved_sum : Fits w64 (at + v.to)
      moved_sum = let h = w.heads v e in omega (arith, w.low, h.1)

      pub moved_heads : Fits w64 (3 * v.rows)
      moved_heads = let h = w.heads v e in omega (arith, h.0, h.1)

      pub moved_text : 3 * v.rows ≤ v.to
      moved_text = (w.heads v e).0

pub ruleset moving = (moved_bad, moved_good, moved_sum, moved_heads, moved_text, rules)

-- ---- a run

module _ (run : List ℕ) where
  pub run_met : (Q : Forest → Type 0) (at : ℕ) (t : Option Tested) (w : Option Walked) → Tests run Q 0 (length run) t → w ≡ moved_to at t → Met run Q (length run) at w
  run_met Q at t w h e = record { tested = t; tells = h; moved = e }

  module _ (f : length run ≤ 65535) where
    pub run_lies : Lies run 0 (length run)
    run_lies = record { order = omega arith; inside = omega arith; few = omega arith }

    pub run_movable : (Q : Forest → Type 0) (at : ℕ) (t : Option Tested) → at ≤ lent → Tests run Q 0 (length run) t → Movable at t
    run_movable Q at t l h = record { low = l; heads = λ v e. by v.to v.rows (rw e at h) }
      where
        by : (i n : ℕ) → Stand run Q 0 (length run) i n → (3 * n ≤ i) × (i ≤ 65535)
        by i n s = (omega (arith, s.end, s.rows, few_forms s.members), omega (arith, s.below, f))

pub ruleset running = (run_met, run_lies, run_movable, rules)

-- ---- whether a whole member stands at a place

module _ (near : List ℕ) (o : Bool) (a m : ℕ) (b : Bool) (t : Tells (Whole near a m) b) where
  pub member_none : b ≡ false → Tells (Heads near o a m) false
  member_none e = by o
    where
      by : (o : Bool) → Heads near o a m → ⊥
      by true h = tells_no b e t h.0
      by false h = tells_no b e t h

  module _ (e : b ≡ true) where
    pub member_one : o ≡ false → Tells (Heads near o a m) true
    member_one f = rw f (tells_yes b e t)

    module _ (w : Lies near a m) where
      pub member_begins : a + 3 ≤ length near
      member_begins = let z = tells_yes b e t in omega (arith, z.begins, w.inside)

      pub member_few : a ≤ longest
      member_few = omega (arith, w.order, w.few)

      module _ (i : ℕ) (f : Behind near a i) where
        pub member_lies : Lies near i m
        member_lies = let z = tells_yes b e t in record { order = omega (arith, f.is, z.ends); inside = w.inside; few = w.few }

        pub member_two : o ≡ true → (c : Bool) → Tells (Whole near i m) c → Tells (Heads near o a m) c
        member_two g true x = rw g (tells_yes b e t, subst (λ (j : ℕ). Whole near j m) f.is x)
        member_two g false x = rw g (λ h. x (subst (λ (j : ℕ). Whole near j m) (sym f.is) h.1))

pub ruleset heading = (member_none, member_one, member_begins, member_few, member_lies, member_two, rules)

-- ---- members one behind another in a run

pub record Going (near : List ℕ) (o : Bool) (k at n rows : ℕ) : Type 0 where
  pub lies : Lies near at (length near)
  pub passed : Passed near o k 0 (length near) at n rows

module _ (near : List ℕ) (o : Bool) (k : ℕ) where
  pub going_first : length near ≤ 65535 → Going near o k 0 0 0
  going_first l = record { lies = record { order = omega arith; inside = omega arith; few = omega arith }; passed = passed_none near o (omega arith) }

  module _ (at n rows : ℕ) (w : Going near o k at n rows) where
    pub going_lies : Lies near at (length near)
    going_lies = w.lies

    pub going_done : Seen near o k at n rows (at - 3 * rows)
    going_done = record { passed = w.passed; text = refl }

    pub going_heads : 3 * rows ≤ at
    going_heads = let p = w.passed in omega (arith, p.count, p.place, few_forms p.front)

    pub going_product : Fits w64 (3 * rows)
    going_product = omega (arith, going_heads, w.lies.order, w.lies.few)

    module _ (q : Option Tested) (t : Tests near (Member o k) at (length near) q) where
      pub going_stuck : (b : Bool) → Tells (Heads near o at (length near)) b → b ≡ true → q ≡ None → Stuck near o k
      going_stuck b u f e = record { at = at; count = n; rows = rows; passed = w.passed; heads = tells_yes b f u; bad = rw e at t }

      module _ (m : Tested) (e : q ≡ Some m) where
        stands : Stand near (Member o k) at (length near) m.to m.rows
        stands = let z : Tests near (Member o k) at (length near) (Some m) = rw e at t in z

        pub going_more : Going near o k m.to (n + 1) (rows + m.rows)
        going_more = let s = stands in record { lies = record { order = s.below; inside = omega arith; few = w.lies.few }; passed = passed_more near o w.passed s }

        pub going_less : length near - m.to < length near - at
        going_less = let s = stands in omega (arith, s.end, s.below, few_forms s.members, some_member s.good)

        pub going_rows : Fits w64 (rows + m.rows)
        going_rows = let g = going_more in let p = g.passed in omega (arith, p.count, few_forms p.front, p.place, p.inside, w.lies.few)

        pub going_count : Fits w64 (n + 1)
        going_count = let g = going_more in let p = g.passed in omega (arith, few_members p.many, few_forms p.front, p.place, p.inside, w.lies.few)

pub ruleset going = (going_first, going_lies, going_done, going_heads, going_product, going_stuck, going_more, going_less, going_rows, going_count, rules)

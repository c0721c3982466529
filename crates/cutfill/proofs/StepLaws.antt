-- Laws of fields of a content, some after others, as code meets them. Assumes nothing.
use mathlib.Core.Path.{◌≡◌}
use mathlib.Core.List.{List}
use mathlib.Core.Bool.{Bool, true, false}
use Prim.Native.Nat.{ℕ, ◌+◌, ◌-◌, ◌*◌, ◌<◌}
use native.Mathlib.Omega.{arith}
use lib.ListN.{length}
use mir.Syntax.{w64}
use mir.Val.{Fits}
use Rattle.exact.specs.Tells.{Tells, tells_yes, tells_no}
use Rattle.views.specs.Views.{viewed}
use Rattle.views.specs.Spans.{Lies}
use Rattle.views.specs.Extents.{Whole, Told}
use Rattle.std.specs.declared.option.Option.{Option}
use Rattle.std.specs.declared.option.Option.TheVariants.{Some, None}
use Rattle.views.specs.declared.parts.Span.{Span}
use Rattle.cutfill.specs.Wholes.{Run}
use Rattle.cutfill.specs.Trees.{Container}
use Rattle.cutfill.specs.Filling.{Passes, FillCut, FillRoom, FillOne, FillLeaf, FillNode, Passed, Steps}
use Rattle.cutfill.specs.Steps.{cut_lies, cut_some, pass_asked, pass_steps, Left, left_room, left_few, left_ahead, left_more}

-- ---- fields that stand whole, or one that does not

module _ {stored starts : List ℕ} {d w at stop r p x : ℕ} (g : FillRoom stored starts d w at stop r p x) where
  module _ {place e : ℕ} (u : Run stored starts d at stop place e) where
    pub some_passes : Passes stored place e at w r p x
    some_passes = pass_asked stored starts d at stop r p x g.asked place e u g.room

    pub some_passed : 0 < e → {at' r' x' c : ℕ} {table table' text text' : List ℕ} → Passed stored place e at r p x at' r' x' c table table' text text'
        → (h : FillCut stored starts d at stop r p x) → Steps starts d h.trees at r p x at' r' x' c table table' text text'
    some_passed l q h = pass_steps stored starts d at stop r p x h place e u l q

  module _ {q : Option Span} (u : Told (viewed stored starts d) at stop q) where
    pub some_none : at < stop → q ≡ None → ⊥
    some_none l e =
        let f : Told (viewed stored starts d) at stop None = rw e at u in
        cut_some stored starts d at stop r p x g.asked l f

    module _ {f : Span} (z : q ≡ Some f) where
      told : Whole (viewed stored starts d) at stop f.tag f.bytes f.end
      told = rw z at u

      one : FillOne stored starts d at f.tag f.bytes f.end r p x
      one = record { stop = stop; asked = g.asked; told = told }

      pub some_node : {b : Bool} → Tells (Container f.tag) b → b ≡ true → FillNode stored starts d w at f.tag f.bytes f.end r p x
      unfolding one
      some_node {b} t y = record { one = one; container = tells_yes b y t; room = g.room }

      pub some_leaf : {b : Bool} → Tells (Container f.tag) b → b ≡ false → FillLeaf stored starts d w at f.tag f.bytes f.end r p x
      unfolding one
      some_leaf {b} t y = record { one = one; other = tells_no b y t; room = g.room }

      pub some_fewer : (t : ℕ) → 3 * (stop - at) + 1 ≡ t → 3 * (f.end - at) < t
      some_fewer t e = let y = told in omega (arith, y.below)

      pub some_one : {at' r' x' c : ℕ} {table table' text text' : List ℕ}
          → ((h : FillOne stored starts d at f.tag f.bytes f.end r p x) → Steps starts d h.asked.trees at r p x at' r' x' c table table' text text')
          → (h : FillCut stored starts d at stop r p x) → Steps starts d h.trees at r p x at' r' x' c table table' text text'
      some_one g h = g (record { stop = stop; asked = h; told = told })

-- ---- the loop

module _ {stored starts : List ℕ} {d stop r p x at row y n : ℕ} {table table' text text' : List ℕ} (g : FillRoom stored starts d (length text) 0 stop r p x)
    (h : (i : FillCut stored starts d 0 stop r p x) → Left stored starts d i.trees stop r p x at row y n table table' text text') where
  left : Left stored starts d g.asked.trees stop r p x at row y n table table' text text'
  left = h g.asked

  pub turn_room : length text' ≡ length text → FillRoom stored starts d (length text') at stop row p y
  turn_room f = let m = left_room stored starts d left g.room in record { asked = left.rest; room = omega (arith, f) }

  module _ {at' row' y' m : ℕ} {table'' text'' : List ℕ} (q : (i : FillCut stored starts d at stop row p y) → Steps starts d i.trees at row p y at' row' y' m table' table'' text' text'') where
    pub turn_count : Fits w64 (n + m)
    turn_count = let l = left_few stored starts d (left_more stored starts d left q) g.asked.few_rows in omega arith

    pub turn_less : stop - at' < stop - at
    turn_less = let a = left_ahead stored starts d left q in omega (arith, a.0, a.1)

    pub turn_again : (i : FillCut stored starts d 0 stop r p x) → Left stored starts d i.trees stop r p x at' row' y' (n + m) table table'' text text''
    turn_again i = left_more stored starts d (h i) q

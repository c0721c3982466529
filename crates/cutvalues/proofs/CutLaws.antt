-- Laws of keys, scalars and members before the nearest cut, as `search` takes them. Assumes nothing.
use mathlib.Core.Path.{◌≡◌, refl, sym, ap, ap₂, subst, ◌∙◌}
use mathlib.Core.List.{List}
use mathlib.Core.Bool.{Bool, true, false}
use Prim.Native.Nat.{ℕ, ◌+◌, ◌-◌, ◌*◌, ◌≤◌, ◌<◌}
use native.Mathlib.Omega.{arith}
use lib.ListN.{length, take, drop}
use lib.Seq.{slice, length-slice}
use mir.Syntax.{w64}
use mir.Val.{Fits}
use borrow.Author.Rules.{rules}
use Rattle.exact.specs.Place.{slice_at}
use Rattle.exact.specs.Tells.{Tells, tells_yes, tells_no}
use Rattle.language.specs.Lent.{lent}
use Rattle.language.specs.Tree.{Tree, none, more, size, text_of}
use Rattle.shaped.specs.Shaped.{Scripted, Scalar}
use Rattle.stored.specs.Form as Form
use Rattle.stored.specs.Form.{head, PART, cut, content, form}
use Rattle.stored.specs.Parts.{Fields}
use Rattle.stored.proofs.PartsLaws.{cut_apart}
use Rattle.stored.specs.Old as old
use Rattle.stored.proofs.OldLengthsLaws.{form_length}
use Rattle.stored.specs.Bytes.{At, at_as, at_inside}
use Rattle.sound.specs.Members.{Sane, One, one, IsKey, is_a_key, Member, container_kind, Many, many_pairs, array_distinct}
use Rattle.uncut.specs.declared.tested.Tested.{Tested}
use Rattle.uncut.specs.Heads as heads
use Rattle.uncut.specs.Tested as uncut
use Rattle.views.specs.Joined.{within}
use Rattle.std.specs.declared.option.Option.{Option}
use Rattle.std.specs.declared.option.Option.TheVariants.{Some, None}
use Rattle.views.specs.declared.parts.Span.{Span}
use Rattle.views.specs.Views.{viewed, view_less, Content, Deeper, deeper_view}
use Rattle.views.specs.Extents.{Whole, Told}
use Rattle.views.specs.Spans.{Lies}
use Rattle.wide.specs.declared.Walked.{Walked}
use Rattle.wide.specs.Tests.{Good, Tests, one_form, none_alone}
use Rattle.wide.specs.Walk.{Passed, passed_bad}
use Rattle.wide.specs.Cut.{sane_true, key_true, content_at, nothing_key, nothing_value, key_stands, key_other, key_none, scalar_stands, scalar_none}
use Rattle.wide.specs.Near.{Nearby}
use Rattle.wide.specs.Keys.{Keys, Counted, ApartTold}
use Rattle.cutvalues.specs.declared.runs.Ran.{Ran}
use Rattle.cutvalues.specs.Bridge.{Heads, Near, bridge_good, bridge_bad, bridge_passed, bridge_stuck}
use Rattle.cutvalues.specs.Runs.{ran, Standing, moved_to, Met, Stuck, Seen, Several, RanOn, NoContainer, Closing, ClosedTold}

-- a place of a content is one of few
pub place_small : {stored starts : List ℕ} {d n : ℕ} → Content stored starts d n → (at : ℕ) → at ≤ n → at ≤ lent
place_small {stored} {starts} {d} h at l = omega (arith, h.fits, h.few, view_less stored starts d)

-- ---- a key or a value in the run before the nearest cut

key_text : (t : Tree) → IsKey t → length (old.form t) ≡ head * size t + length (text_of t)
unfolding old.content size text_of
key_text t (is_a_key x) = omega arith

sane_text : (k : ℕ) (t : Tree) → Sane k t → length (old.form t) ≡ head * size t + length (text_of t)
sane_text k t s = form_length s.shaped

part : (p left : ℕ) (l : List ℕ) → take (p + left - p) (drop p l) ≡ slice p (p + left) l
part p left l = let k : p + (p + left - p) ≡ p + left = omega arith in slice_at p (p + left - p) l ∙ ap (λ (n : ℕ). slice p n l) k

pub run_stands : {stored starts : List ℕ} {d at stop p left : ℕ} → Nearby stored starts d at stop p left → Standing (viewed stored starts d) at stop (take (p + left - p) (drop p stored))
run_stands {stored} {starts} {d} {at} {stop} {p} {left} n = subst (Standing (viewed stored starts d) at stop) (sym (part p left stored)) (record { near = near; below = omega (arith, long, n.below) })
  where
    long : length (slice p (p + left) stored) ≡ left
    long = length-slice p (p + left) stored n.inside ∙ omega arith

    near : Near (viewed stored starts d) (slice p (p + left) stored) at (length (slice p (p + left) stored))
    near = subst (λ (m : ℕ). Near (viewed stored starts d) (slice p (p + left) stored) at m) (sym long) (record { is = n.is; inside = omega (arith, n.below, n.within); few = n.few })

module _ (v run : List ℕ) (at stop : ℕ) (s : Standing v at stop run) where
  pub run_few : length run ≤ 65535
  run_few = s.near.few

  pub run_asked : heads.Lies run 0 (length run)
  run_asked = record { order = omega arith; inside = omega arith; few = omega (arith, s.near.few) }

  near_met : (P : Tree → Type 0) → ((t : Tree) → P t → length (old.form t) ≡ head * size t + length (text_of t)) → heads.Whole run 0 (length run) → (w : Option Walked) → Met run (One P) (length run) at w → Tests v (One P) at stop w
  near_met P g h w m = subst (Tests v (One P) at stop) (sym m.moved) (by m.tested m.tells)
    where
      by : (t : Option Tested) → uncut.Tests run (One P) 0 (length run) t → Tests v (One P) at stop (moved_to at t)
      by (Some t) u = bridge_good s.near s.below g u
      by None u = bridge_bad s.near s.below h u

  module _ (b : Bool) (t : Tells (heads.Whole run 0 (length run)) b) (e : b ≡ true) (w : Option Walked) where
    pub near_key : Met run (One IsKey) (length run) at w → Tests v (One IsKey) at stop w
    near_key m = near_met IsKey key_text (tells_yes b e t) w m

    pub near_value : (k : ℕ) → Met run (One (Sane k)) (length run) at w → Tests v (One (Sane k)) at stop w
    near_value k m = near_met (Sane k) (sane_text k) (tells_yes b e t) w m

pub ruleset nearing = (place_small, run_few, run_asked, near_key, near_value, rules)

-- ---- members in it

module _ (v run : List ℕ) (at stop : ℕ) (n : Standing v at stop run) (o : Bool) (k : ℕ) (r : Option Ran) (t : Several run o k r) where
  pub members_bad : r ≡ None → RanOn v o k at stop None
  members_bad e =
      let s : Stuck run o k = rw e at t in
      passed_bad v o (bridge_passed n.near o n.below s.passed) (by s.at o s.heads) (bridge_stuck n.near o s.heads s.bad)
    where
      by : (i : ℕ) (o : Bool) → Heads run o i (length run) → at + i < stop
      by i true h = omega (arith, h.0.begins, n.below)
      by i false h = omega (arith, h.begins, n.below)

  module _ (i : Ran) (e : r ≡ Some i) where
    seen : Seen run o k i.end i.members i.rows i.bytes
    seen = let z : Several run o k (Some i) = rw e at t in z

    pub members_good : RanOn v o k at stop (ran (at + i.end) i.members i.rows i.bytes)
    members_good =
        let s = seen in
        subst (Passed v o k at stop (at + i.end) i.members i.rows) (sym s.text) (bridge_passed n.near o n.below s.passed)

    pub members_fits : at ≤ lent → Fits w64 (at + i.end)
    members_fits l = let s = seen in omega (arith, s.passed.inside, n.near.few)

pub ruleset passing = (place_small, run_few, members_bad, members_good, members_fits, rules)

-- ---- a key, and a scalar, that are cut

-- the content in the view inside
module _ (stored starts : List ℕ) (d at stop tag n end : ℕ) (w : Whole (viewed stored starts d) at stop tag n end) (x : List ℕ) (z : Deeper starts d at x) where
  content_fits : n ≤ length (viewed stored x (d + 1))
  content_fits =
      let c = content_at (viewed stored starts d) w in
      omega (arith, at_inside w.content c (omega arith), w.count, ap length (deeper_view stored z))

  pub content_asked : {m : ℕ} → d < 34 → Content stored starts d m → Content stored x (d + 1) n
  content_asked l h = record { low = omega arith; few = h.few; fits = content_fits }

  module _ (b : Bool) where
    module _ (u : Tells (Scripted (take n (viewed stored x (d + 1)))) b) where
      t : Tells (Scripted (take n (within (viewed stored starts d) at))) b
      t = rw (deeper_view stored z) at u

      pub content_key : b ≡ true → tag ≡ 10 → Tests (viewed stored starts d) (One IsKey) at stop (Good end 1 n)
      content_key f e = key_stands (viewed stored starts d) w e (tells_yes b f t)

      pub content_no_key : b ≡ false → Tests (viewed stored starts d) (One IsKey) at stop None
      content_no_key f = key_none (viewed stored starts d) w (tells_no b f t)

    module _ (k : ℕ) (u : Tells (Scalar tag (take n (viewed stored x (d + 1)))) b) where
      y : Tells (Scalar tag (take n (within (viewed stored starts d) at))) b
      y = rw (deeper_view stored z) at u

      pub content_scalar : b ≡ true → Tests (viewed stored starts d) (One (Sane k)) at stop (Good end 1 n)
      content_scalar f = scalar_stands (viewed stored starts d) w (tells_yes b f y)

      pub content_no_scalar : NoContainer tag → b ≡ false → Tests (viewed stored starts d) (One (Sane k)) at stop None
      content_no_scalar c f = scalar_none (viewed stored starts d) w c.no_array c.no_object (tells_no b f y)

pub low_fits : (d : ℕ) → d < 34 → Fits w64 (d + 1)
low_fits d l = omega arith

pub ruleset leafing = (place_small, low_fits, content_asked, content_key, content_no_key, content_scalar, content_no_scalar, rules)

-- ---- by the extent of the field

module _ (v : List ℕ) (at stop : ℕ) (s : Option Span) (t : Told v at stop s) where
  pub extent_no_key : s ≡ None → Tests v (One IsKey) at stop None
  extent_no_key e = let f : Told v at stop None = rw e at t in nothing_key v f

  pub extent_no_value : (k : ℕ) → s ≡ None → Tests v (One (Sane k)) at stop None
  extent_no_value k e = let f : Told v at stop None = rw e at t in nothing_value v f

  module _ (f : Span) (e : s ≡ Some f) where
    pub extent_whole : Whole v at stop f.tag f.bytes f.end
    extent_whole = let g : Told v at stop (Some f) = rw e at t in g

    pub extent_other : (f.tag ≡ 10 → ⊥) → Tests v (One IsKey) at stop None
    extent_other g = key_other v extent_whole g

    pub extent_key : f.tag ≡ 10 → Whole v at stop 10 f.bytes f.end
    extent_key g = subst (λ (k : ℕ). Whole v at stop k f.bytes f.end) g extent_whole

    pub extent_array : f.tag ≡ 8 → Whole v at stop (container_kind false) f.bytes f.end
    extent_array g = subst (λ (k : ℕ). Whole v at stop k f.bytes f.end) g extent_whole

    pub extent_object : f.tag ≡ 9 → Whole v at stop (container_kind true) f.bytes f.end
    extent_object g = subst (λ (k : ℕ). Whole v at stop k f.bytes f.end) g extent_whole

pub tag_other : (tag : ℕ) → (tag ≡ 8 → ⊥) → (tag ≡ 9 → ⊥) → NoContainer tag
tag_other tag f g = record { no_array = f; no_object = g }

pub depth_low : (d allow : ℕ) → d + allow ≤ 32 → d < 34
depth_low d allow l = omega arith

pub ruleset extending = (extent_no_key, extent_no_value, extent_whole, extent_other, extent_key, extent_array, extent_object, tag_other, depth_low, rules)

-- ---- a container whose members are passed

module _ (v : List ℕ) (o : Bool) (n : ℕ) where
  keys : {k m rows bytes : ℕ} → o ≡ true → Passed v o k 0 n n m rows bytes → Keys v n
  keys {k} {m} e p =
      record {
        allow = k;
        count = m;
        trees = p.front;
        pairs = many_pairs (subst (λ (b : Bool). Many (Member b k) m p.front) e p.many);
        here = p.here;
        total = omega (arith, p.place);
      }

  pub closing_keys : (members : ℕ) → o ≡ true → Closing v o n members → Counted v n members
  unfolding keys
  closing_keys members e c = record { keys = keys e c.passed; are = refl }

  pub closing_object : (b : Bool) → o ≡ true → ApartTold v n b → ClosedTold v o n b
  unfolding keys
  closing_object b e t = record { told = λ k m rows bytes p. t (keys e p) }

  pub closing_array : o ≡ false → ClosedTold v o n true
  closing_array e = record { told = λ k m rows bytes p. array_distinct (subst (λ (b : Bool). Many (Member b k) m p.front) e p.many) }

pub ruleset closing = (closing_keys, closing_object, closing_array, rules)

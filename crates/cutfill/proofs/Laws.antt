-- Laws of rows and runs of a content that is cut, as `search` takes them. Assumes nothing.
use mathlib.Core.Path.{◌≡◌, sym, ap, ap₂, subst, ◌∙◌}
use mathlib.Core.List.{List}
use mathlib.Core.Bool.{Bool}
use Prim.Native.Nat.{ℕ, ◌+◌, ◌-◌, ◌*◌, ◌/◌, ◌≤◌, ◌<◌}
use native.Mathlib.Omega.{arith}
use lib.ListN.{length, take, drop}
use lib.Seq.{sets, slice, length-slice}
use mir.Syntax.{w64}
use mir.Val.{Fits}
use borrow.Author.Rules.{rules}
use borrow.Author.Tests.{eq-eqb, ne_eqb}
use Rattle.exact.specs.Place.{slice_at}
use Rattle.notation.specs.Class.{pick}
use Rattle.language.specs.Tree.{unlined, width, row_list}
use Rattle.language.specs.Lent.{lent}
use Rattle.rooms.specs.Contract.{Small}
use Rattle.rooms.specs.declared.Words.{Words}
use Rattle.views.specs.Views.{view_place, place_of, Seen}
use Rattle.uncut.specs.Short.{longest}
use Rattle.uncut.specs.Filling as uncut
use Rattle.uncut.specs.Filling.{members_of}
use Rattle.wide.specs.Near.{Nearby}
use Rattle.cutfill.specs.Wholes.{Chain, Run}
use Rattle.cutfill.specs.Filling.{Rowed, Passes, Passed}

-- ---- the count of members

pub members_pairs : (k n : ℕ) → k ≡ 9 → n / 2 ≡ members_of k n
members_pairs k n h = sym (ap (λ (b : Bool). pick b (n / 2) n) (eq-eqb k 9 h))

pub members_all : (k n : ℕ) → (k ≡ 9 → ⊥) → n ≡ members_of k n
members_all k n h = sym (ap (λ (b : Bool). pick b (n / 2) n) (ne_eqb k 9 h))

pub ruleset membering = (members_pairs, members_all, rules)

-- ---- a row

seen_few : {starts : List ℕ} {d i : ℕ} → Seen starts d i → place_of starts d i < lent
seen_few {starts} {d} {i} s = let l = view_place s.stored starts d i s.inside_view in omega (arith, s.few)

module _ {starts : List ℕ} {d at end r tag parent from to next : ℕ} (h : Rowed starts d at end r tag parent from to next) where
  pub rowed_after : {q : ℕ} → q ≡ place_of starts d (end - 1) → Fits w64 (q + 1)
  rowed_after e = omega (arith, seen_few h.last)

  pub rowed_small : {p q : ℕ} → p ≡ place_of starts d at → q ≡ place_of starts d (end - 1) → Small p (q + 1) from to next
  rowed_small e f =
      record {
        first_fits = omega (arith, seen_few h.first);
        after_fits = omega (arith, seen_few h.last);
        from_fits = h.from_fits;
        to_fits = h.to_fits;
        next_fits = h.next_fits;
      }

pub rowed_told : (starts table table' : List ℕ) (d at end r tag parent from to next p q : ℕ) (w : Words) → p ≡ place_of starts d at → q ≡ place_of starts d (end - 1)
    → w ≡ record { kind = tag; first = p; after = q + 1; from = from; to = to; parent = parent; next = next }
    → table' ≡ sets table (width * r) (row_list unlined w.kind w.first w.after w.from w.to w.parent w.next)
    → table' ≡ sets table (width * r) (row_list unlined tag (place_of starts d at) (place_of starts d (end - 1) + 1) from to parent next)
rowed_told starts table table' d at end r tag parent from to next p q w e f g h =
    h
    ∙ (ap (λ (v : Words). sets table (width * r) (row_list unlined v.kind v.first v.after v.from v.to v.parent v.next)) g
    ∙ ap₂ (λ (i j : ℕ). sets table (width * r) (row_list unlined tag i (j + 1) from to parent next)) e f)

pub ruleset rowing = (rowed_after, rowed_small, rowed_told, rules)

-- ---- a run

-- a part of the stored bytes, as code and as the contracts have it
part_slice : (p n : ℕ) (l : List ℕ) → take (p + n - p) (drop p l) ≡ slice p (p + n) l
part_slice p n l = ap (λ (m : ℕ). take m (drop p l)) (let e : p + n - p ≡ n = omega arith in e) ∙ slice_at p n l

module _ {stored starts : List ℕ} {d at stop place left : ℕ} (h : Nearby stored starts d at stop place left) where
  pub near_inside : place + left ≤ length stored
  near_inside = h.inside

  pub near_short : length (take (place + left - place) (drop place stored)) ≤ longest
  near_short = omega (arith, ap length (part_slice place left stored), length-slice place (place + left) stored h.inside, h.few)

  pub near_run : {e : ℕ} → Chain (take (place + left - place) (drop place stored)) e → Run stored starts d at stop place e
  near_run {e} c = record { left = left; near = h; chain = subst (λ (s : List ℕ). Chain s e) (part_slice place left stored) c }

pub ruleset running = (near_inside, near_short, near_run, rules)

module _ (stored : List ℕ) (p n at w r parent x : ℕ) (h : Passes stored p n at w r parent x) where
  pub passes_inside : p + n ≤ length stored
  passes_inside = h.inside

  pub passes_few : at + n ≤ lent
  passes_few = h.few

  pub passes_asked : uncut.FillRoom (take (p + n - p) (drop p stored)) w p 0 n r parent x
  passes_asked = subst (λ (s : List ℕ). uncut.FillRoom s w p 0 n r parent x) (sym (part_slice p n stored)) h.asked

pub passes_told : (stored : List ℕ) (p n at r parent x at' r' x' c : ℕ) (table table' text text' : List ℕ) → at' ≡ at + n
    → ((h : uncut.FillAll (take (p + n - p) (drop p stored)) p 0 n r parent x) → uncut.FillsAll h.trees (p + 0) r parent x r' x' c table table' text text') → Passed stored p n at r parent x at' r' x' c table table' text text'
passes_told stored p n at r parent x at' r' x' c table table' text text' e f =
    record { place = e; fills = subst (λ (s : List ℕ). (h : uncut.FillAll s p 0 n r parent x) → uncut.FillsAll h.trees (p + 0) r parent x r' x' c table table' text text') (part_slice p n stored) f }

pub ruleset passing = (passes_inside, passes_few, passes_asked, passes_told, rules)

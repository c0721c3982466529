-- THE BYTES OF A CONTENT BEFORE THE NEAREST CUT (`Nearby`): they stand in the stored bytes one behind another. Assumes nothing.
use Rattle.std.specs.Prelude.{◌≡◌, List, ℕ, ◌+◌, ◌-◌, ◌≤◌, ◌<◌, length}
use Rattle.std.proofs.Common.{sym, ap, ◌∙◌, arith, ext_get_or, rules}
use Rattle.std.proofs.Math.Seq.{slice, length-slice}
use Rattle.views.specs.Views.{viewed, place_of, Seen, Reached, run_slice}
use Rattle.views.specs.declared.Reach.{Reach}
use Rattle.views.specs.declared.view.View.{View}
use Rattle.views.specs.Spans.{Lies}

-- `left` bytes of the content from `at` on, before `stop`, stand from `place` on
pub record Nearby (stored starts : List ℕ) (d at stop place left : ℕ) : Type 0 where
  pub inside : place + left ≤ length stored
  pub is : slice at (at + left) (viewed stored starts d) ≡ slice place (place + left) stored
  pub same : (j : ℕ) → j < left → place_of starts d (at + j) ≡ place + j
  pub some : at < stop → 0 < left
  pub below : at + left ≤ stop
  pub within : stop ≤ length (viewed stored starts d)
  pub few : left ≤ 65535

-- .. of a content, before its end
abbrev pub Nearest : View → ℕ → Reach → Type 0
Nearest v at r = Nearby v.stored.now v.starts.now v.d at v.n r.place r.left

module _ (stored starts : List ℕ) (d at stop : ℕ) (h : Lies stored starts d at stop) where
  -- nothing is left
  pub near_none : at ≡ stop → Nearby stored starts d at stop 0 0
  near_none e =
      record {
        inside = omega arith;
        is = ext_get_or 0 (slice at (at + 0) v) (slice 0 (0 + 0) stored) (length-slice at (at + 0) v (omega (arith, h.inside_view)) ∙ (omega arith ∙ sym (length-slice 0 (0 + 0) stored (omega arith)))) (λ j l. absurd (omega (arith, length-slice at (at + 0) v (omega (arith, h.inside_view)))));
        same = λ j l. absurd (omega arith);
        some = λ l. absurd (omega arith);
        below = omega (arith, h.order);
        within = h.inside_view;
        few = omega arith;
      }
    where
      v : List ℕ
      v = viewed stored starts d

  module _ (f : at ≡ stop → ⊥) where
    pub near_seen : Seen starts d at
    near_seen = record { stored = stored; few = h.few; inside_view = omega (arith, h.order, h.inside_view) }

    pub near_run : (most place left : ℕ) → most ≤ 65535 → most ≤ stop - at → 0 < most → Reached starts d at most place left → Nearby stored starts d at stop place left
    near_run most place left m n s r =
        let z = run_slice stored starts d at most place left r (omega (arith, h.order, h.inside_view)) (omega (arith, r.least, h.order, h.inside_view)) left (omega arith) in
        record {
          inside = z.0;
          is = z.1;
          same = r.same;
          some = λ l. r.some s;
          below = omega (arith, r.least, h.order);
          within = h.inside_view;
          few = omega (arith, r.least);
        }

pub ruleset nearing = (near_none, near_seen, near_run, rules)

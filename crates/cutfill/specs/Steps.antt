-- THE FIELDS OF A CONTENT, SOME AFTER OTHERS: those of a run are filled as those of a short file (`pass_steps`), some after others make all (`left_more`, `left_end`), and those of the file make the whole (`root_filled`). Assumes nothing.
use Rattle.std.specs.Prelude.{◌≡◌, refl, List, [], take}
use Rattle.std.proofs.Math.Path.{sym, ap}
use Rattle.std.proofs.Common.{subst, ◌∙◌, append-nil}
use Prim.Native.Nat.{ℕ, ◌+◌, ◌≤◌, ◌<◌}
use native.Mathlib.Omega.{arith}
use Rattle.std.proofs.Math.ListN.{length, length-append}
use Rattle.std.proofs.Math.Seq.{sets, slice, length-slice}
use Rattle.language.specs.Tree.{unlined, Forest, none, more, size, sizes, text_of, texts_of, rows_of, rowss}
use Rattle.language.specs.Answered.{deepest}
use Rattle.language.specs.Lent.{lent}
use Rattle.shaped.specs.Beside.{beside, beside_size, beside_text}
use Rattle.stored.specs.Form.{widest, tag, content, forms, form, placed, placeds}
use Rattle.stored.specs.Parts.{widest_is}
use Rattle.stored.proofs.LengthsLaws.{forms_length, form_longer, few_rows, few_text}
use Rattle.stored.specs.Old as old
use Rattle.stored.specs.Bytes.{At, at_left, at_right, at_as, at_place, at_slice}
use Rattle.fields.specs.Puts.{puts_as}
use Rattle.views.specs.Views.{viewed, view_file, view_less, Content}
use Rattle.views.specs.Spans.{Lies}
use Rattle.views.specs.Extents.{Told}
use Rattle.std.specs.declared.option.Option.TheVariants.{None}
use Rattle.uncut.specs.Filling as uncut
use Rattle.wide.specs.Walk.{beside_forms}
use Rattle.cutfill.specs.Placed.{places, places_are, places_file, beside_all, beside_none, run_forms, run_placed}
use Rattle.cutfill.specs.Wholes.{chain_inside, Run, Split, chain_split, slice_front, alone_form}
use Rattle.cutfill.specs.Trees.{Deeps, deeps_none, deeps_more, deep_value, deep_true, front_kept, rest_deep, trees_few}
use Rattle.cutfill.specs.Filling.{Passes, FillCut, FillRoom, FillRoot, Fills, Passed, Steps, FilledRooms, fills_none, fills_both}

beside_long : (ts us : Forest) → length (forms (beside ts us)) ≡ length (forms ts) + length (forms us)
beside_long ts us = ap length (beside_forms ts us) ∙ length-append (forms ts) (forms us)

beside_bytes : (ts us : Forest) → length (texts_of (beside ts us)) ≡ length (texts_of ts) + length (texts_of us)
beside_bytes ts us = ap length (beside_text ts us) ∙ length-append (texts_of ts) (texts_of us)

module _ (stored starts : List ℕ) (d at stop r p x : ℕ) (h : FillCut stored starts d at stop r p x) where
  abbrev v : List ℕ
  v = viewed stored starts d

  pub cut_lies : Lies stored starts d at stop
  cut_lies = record { low = omega (arith, h.deep); few = h.few; order = omega (arith, h.total); inside_view = h.inside }

  pub cut_few : stop ≤ lent
  cut_few = let l = view_less stored starts d in omega (arith, h.few, h.inside)

  -- a field stands there
  pub cut_some : at < stop → Told v at stop None → ⊥
  unfolding content
  cut_some l f = by h.trees h.kept h.here h.total
    where
      by : (us : Forest) → Deeps h.allow us → At v at (forms us) → at + length (forms us) ≡ stop → ⊥
      by none y i t = omega arith
      by (more u us) (deeps_more y ys) i t = f (tag u) (content u) (deep_true y) (at_left v (form u) (forms us) i) (omega (arith, forms_length u us))

  -- ---- those that stand whole in a run
  module _ (place e : ℕ) (w : Run stored starts d at stop place e) where
    short : e ≤ w.left
    short = omega (arith, chain_inside w.chain, length-slice place (place + w.left) stored w.near.inside)

    fits : at + w.left ≤ length v
    fits = omega (arith, w.near.below, w.near.within)

    split : Split h.trees e
    split = chain_split v at w.left fits w.near.few h.trees h.here (omega (arith, w.near.below, h.total)) w.near.is w.chain

    abbrev front : Forest
    front = split.front

    narrow : length (forms front) ≤ widest
    narrow = omega (arith, split.long, short, w.near.few, widest_is)

    front_at : At v at (forms front)
    front_at = at_left v (forms front) (forms split.rest) (at_as (ap (λ (us : Forest). forms us) split.is ∙ beside_forms front split.rest) h.here)

    bytes_are : slice place (place + e) stored ≡ old.forms front
    bytes_are =
        slice_front stored place w.left e w.near.inside short
        ∙ (ap (take e) (sym w.near.is)
        ∙ (sym (slice_front v at w.left e fits short)
        ∙ (at_slice {e = at + e} (forms front) front_at (omega (arith, split.long)) (let s = short in let f = fits in omega arith) ∙ run_forms front narrow)))

    long : length (old.forms front) ≡ e
    long = sym (ap length (run_forms front narrow)) ∙ split.long

    pass_all : uncut.FillAll (slice place (place + e) stored) place 0 e r p x
    pass_all =
        let s = short in
        let i = w.near.inside in
        record {
          trees = front;
          kept = front_kept front split.rest (subst (λ (us : Forest). Deeps h.allow us) split.is h.kept);
          here = record { behind = []; is = bytes_are ∙ sym (append-nil (old.forms front)) };
          total = omega (arith, long);
          inside = omega (arith, ap length bytes_are, long);
          few = omega (arith, w.near.few);
          few_bytes = omega (arith, h.few);
          few_rows = omega (arith, h.few_rows, ap (λ (us : Forest). sizes us) split.is, beside_size front split.rest);
          few_text = omega (arith, h.few_text, ap (λ (us : Forest). length (texts_of us)) split.is, beside_bytes front split.rest);
          parent = h.parent;
        }

    pub pass_asked : {o : ℕ} → x + length (texts_of h.trees) ≤ o → Passes stored place e at o r p x
    unfolding pass_all
    pass_asked l =
        let s = short in
        let f = fits in
        record {
          inside = omega (arith, w.near.inside);
          few = let g = view_less stored starts d in omega (arith, h.few);
          asked = record { asked = pass_all; room = omega (arith, ap (λ (us : Forest). length (texts_of us)) split.is, beside_bytes front split.rest) };
        }

    placed_so : placeds (places starts d at) front ≡ old.placeds (place + 0) front
    placed_so =
        run_placed (places starts d at) (place + 0) front narrow
        (λ i l. places_are starts d at i ∙ (w.near.same i (let s = short in omega (arith, split.long)) ∙ omega arith))

    pub pass_steps : 0 < e → {at' r' x' c : ℕ} {table table' text text' : List ℕ} → Passed stored place e at r p x at' r' x' c table table' text text' → Steps starts d h.trees at r p x at' r' x' c table table' text text'
    unfolding pass_all
    pass_steps l q =
        let g = q.fills pass_all in
        record {
          front = front;
          rest = split.rest;
          is = split.is;
          some = omega (arith, q.place);
          ends = omega (arith, q.place, split.long);
          fills = record { row = g.row; count = g.count; rows = puts_as (ap (λ (us : Forest). rowss unlined r p x us) (sym placed_so)) g.rows; bytes = g.bytes };
        }

-- ---- the loop over the fields

module _ (stored starts : List ℕ) (d : ℕ) where
  -- of the trees ts some are filled, and these are left, from `at` on
  pub record Left (ts : Forest) (stop r p x at row y n : ℕ) (table table' text text' : List ℕ) : Type 0 where
    pub rest : FillCut stored starts d at stop row p y
    pub front : Forest
    pub is : ts ≡ beside front rest.trees
    pub ends : at ≡ length (forms front)
    pub fills : Fills front (places starts d 0) r p x row y n table table' text text'

  pub left_start : {stop r p x : ℕ} {table text : List ℕ} (h : FillCut stored starts d 0 stop r p x) → Left h.trees stop r p x 0 r x 0 table table text text
  unfolding beside content
  left_start h = record { rest = h; front = none; is = refl; ends = refl; fills = fills_none }

  none_left : {at stop r p x : ℕ} (h : FillCut stored starts d at stop r p x) → stop ≤ at → h.trees ≡ none
  none_left {at} {stop} h l = by h.trees h.total
    where
      by : (ts : Forest) → at + length (forms ts) ≡ stop → ts ≡ none
      by none t = refl
      by (more u us) t = absurd (omega (arith, forms_length u us, form_longer u))

  module _ {ts : Forest} {stop r p x at row y n : ℕ} {table table' text text' : List ℕ} (h : Left ts stop r p x at row y n table table' text text') where
    pub left_end : stop ≤ at → Fills ts (places starts d 0) r p x row y n table table' text text'
    left_end l = subst (λ (us : Forest). Fills us (places starts d 0) r p x row y n table table' text text') (sym (h.is ∙ (ap (beside h.front) (none_left h.rest l) ∙ beside_none h.front))) h.fills

    pub left_room : {w : ℕ} → x + length (texts_of ts) ≤ w → y + length (texts_of h.rest.trees) ≤ w
    left_room l = omega (arith, ap (λ (us : Forest). length (texts_of us)) h.is, beside_bytes h.front h.rest.trees, h.fills.bytes.ends)

    pub left_few : r + sizes ts ≤ lent → n ≤ lent
    left_few l = omega (arith, ap (λ (us : Forest). sizes us) h.is, beside_size h.front h.rest.trees, h.fills.count, trees_few h.front)

    module _ {at' row' y' m : ℕ} {table'' text'' : List ℕ} (g : (i : FillCut stored starts d at stop row p y) → Steps starts d i.trees at row p y at' row' y' m table' table'' text' text'') where
      step : Steps starts d h.rest.trees at row p y at' row' y' m table' table'' text' text''
      step = g h.rest

      rest_cut : FillCut stored starts d at' stop row' p y'
      rest_cut =
          let s = step in
          let u = h.rest in
          let e = ap (λ (us : Forest). forms us) s.is ∙ beside_forms s.front s.rest in
          record {
            trees = s.rest;
            allow = u.allow;
            deep = u.deep;
            kept = rest_deep s.front s.rest (subst (λ (us : Forest). Deeps u.allow us) s.is u.kept);
            here = at_place (sym s.ends) (at_right (viewed stored starts d) (forms s.front) (forms s.rest) refl (at_as e u.here));
            total = omega (arith, u.total, s.ends, ap length e, length-append (forms s.front) (forms s.rest));
            inside = u.inside;
            few = u.few;
            few_rows = omega (arith, u.few_rows, s.fills.row, ap (λ (us : Forest). sizes us) s.is, beside_size s.front s.rest);
            few_text = omega (arith, u.few_text, s.fills.bytes.ends, ap (λ (us : Forest). length (texts_of us)) s.is, beside_bytes s.front s.rest);
            parent = u.parent;
          }

      pub left_ahead : (at < at') × (at' ≤ stop)
      unfolding rest_cut
      left_ahead = let s = step in let u = rest_cut in (s.some, omega (arith, u.total))

      pub left_more : Left ts stop r p x at' row' y' (n + m) table table'' text text''
      unfolding rest_cut
      left_more =
          let s = step in
          record {
            rest = rest_cut;
            front = beside h.front s.front;
            is = h.is ∙ (ap (beside h.front) s.is ∙ beside_all h.front s.front s.rest);
            ends = omega (arith, h.ends, s.ends, beside_long h.front s.front);
            fills = fills_both starts d 0 (omega (arith, h.ends)) h.fills s.fills;
          }

-- ---- the root: one field is the whole

module _ (stored starts : List ℕ) where
  root_cut : {w : ℕ} → FillRoot stored w → FillCut stored starts 0 0 (length stored) 0 0 0
  unfolding size text_of
  root_cut g =
      let t = g.tree in
      let e = ap length g.whole in
      record {
        trees = more t none;
        allow = deepest;
        deep = omega arith;
        kept = deeps_more (deep_value g.shaped) deeps_none;
        here = record { behind = []; is = view_file stored starts ∙ sym (append-nil (forms (more t none)) ∙ (alone_form t ∙ g.whole)) };
        total = omega (arith, ap length (alone_form t));
        inside = omega (arith, ap length (view_file stored starts));
        few = g.few;
        few_rows = omega (arith, few_rows t g.shaped (omega (arith, g.few)));
        few_text = omega (arith, few_text t g.shaped (omega (arith, g.few)), length-append (text_of t) []);
        parent = omega arith;
      }

  pub root_room : {w : ℕ} → FillRoot stored w → FillRoom stored starts 0 w 0 (length stored) 0 0 0
  unfolding root_cut text_of
  root_room g = record { asked = root_cut g; room = omega (arith, g.room, length-append (text_of g.tree) []) }

  pub root_content : {w : ℕ} → FillRoot stored w → Content stored starts 0 (length stored)
  unfolding root_cut
  root_content g = let h = root_cut g in record { low = omega arith; few = h.few; fits = h.inside }

  pub root_filled : {w r x n : ℕ} {table table' text text' : List ℕ} → ((i : FillCut stored starts 0 0 (length stored) 0 0 0) → Fills i.trees (places starts 0 0) 0 0 0 r x n table table' text text')
      → (h : FillRoot stored w) → FilledRooms h.tree table table' text text'
  unfolding root_cut placed rows_of text_of
  root_filled {table = table} {text = text} q h =
      let f = q (root_cut h) in
      let t = h.tree in
      record {
        rows =
            f.rows.holds
            ∙ (ap (sets table 0) (append-nil (rows_of unlined 0 0 0 (placed (places starts 0 0) t))) ∙ ap (λ (g : ℕ → ℕ). sets table 0 (rows_of unlined 0 0 0 (placed g t))) (places_file starts));
        bytes = f.bytes.holds ∙ ap (sets text 0) (append-nil (text_of t));
      }

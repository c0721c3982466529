-- THE LOWER'S PAIRS, one after another, each with what the upper has for its key; then the upper's new ones; and the object of both. Assumes nothing.
use Rattle.std.specs.Prelude.{◌≡◌, Bool, ℕ, zero, suc, ◌+◌, ◌-◌, ◌*◌, ◌≤◌, ◌<◌, length}
use Rattle.std.proofs.Math.Path.{refl, sym, ap, subst}
use Rattle.std.proofs.Common.{◌∙◌}
use mathlib.Core.List.{List, [], ◌∷◌, ◌++◌, append_assoc, append-nil}
use native.Mathlib.Omega.{arith}
use Rattle.std.proofs.Math.ListN.{get_or}
use Rattle.std.proofs.lemmas.List.Edits.{sets}
use Rattle.notation.specs.Class.{or}
use Rattle.exact.specs.Class.{clash}
use Rattle.language.specs.Kind.{OBJECT}
use Rattle.language.specs.Tree.{Tree, node, Forest, none, Field, field, count, width, unlined, size, sizes, text_of, row_list}
use Rattle.language.specs.Alike.{unspan, unspans}
use Rattle.shaped.specs.Beside.{beside}
use Rattle.sound.specs.Members.{Sane}
use Rattle.sound.specs.Standing.{Kept, kept_value, size_some, At, next_word, word_in}
use Rattle.overlay.specs.Overlay.{is_object, pairs_of, pairs, Value, value, absent, value_of, new_ones}
use Rattle.overlay.specs.Over.{over}
use Rattle.overlay.specs.Lists.{topped, mended, laid_pairs, new_kept, new_left, new_append}
use Rattle.overlay.proofs.ListsLaws.{over_objects}
use Rattle.overlay.specs.Objects.{pairs_count}
use Rattle.overlay.proofs.ObjectsLaws.{sane_props, sane_other}
use Rattle.overlay.specs.Clash.{clashing}
use Rattle.overlay.proofs.ClashLaws.{clashes_objects}
use Rattle.lay.specs.declared.Spot.{Spot}
use Rattle.lay.specs.declared.Grown.{Grown}
use Rattle.std.specs.Prelude.{true, false, Option, is_some, Result, Ok, Err}
use Rattle.distinct.specs.Chains.{some_of}
use Rattle.lay.specs.declared.Clash.{Clash}
use Rattle.lay.specs.Targets.{ceiling, Stored, stored_none, stored_then, stored_as, stored_node, alone, alone_size, alone_text, head_size, own_length}
use Rattle.lay.specs.Keeping.{Keep}
use Rattle.lay.specs.Matching.{Stand, Pair, stand_first, stand_none, inside, Mark, Marks, marks_end, Refill, Refilled, marks_first, marks_agree, row_of}
use Rattle.lay.specs.Laying.{bares, bares_append, Fits, fits_as, fits_first, fits_behind, fits_keep, bares_pair, Lays, lays_over, lays_clash, Objects, Both, Lowers, Lowered, lowered, lowered_clash, lowered_done, lowered_clashed, News, Grew, Topping, Tops, tops_done, tops_clashed, clash_at, marked_there, marked_missing}

pub count_append : (us vs : List Field) → count (us ++ vs) ≡ count us + count vs
count_append [] vs = omega arith
count_append (u ∷ us) vs = ap suc (count_append us vs) ∙ (let e : suc (count us + count vs) ≡ suc (count us) + count vs = omega arith in e)

-- ---- THE LOWER'S PAIRS
module _ (lower lt : List ℕ) (r : ℕ) (upper ut : List ℕ) (s k : ℕ) (a : Spot) (h : Lowers lower lt r upper ut s k a) where
  abbrev fs : List Field
  fs = pairs h.both.under.tree

  abbrev gs : List Field
  gs = pairs h.both.above.tree

  pub lowers_word : width * r + 6 < length lower
  lowers_word = word_in lower lt h.both.under.here 6 (omega arith)

  pub lowers_first : r + 1 < ceiling + 1
  lowers_first = omega (arith, h.both.few_under, size_some h.both.under.tree)

  module _ (stop : ℕ) (e : stop ≡ get_or lower (width * r + 6) 0) (p : ℕ) where
    stop_is : stop ≡ r + size h.both.under.tree
    stop_is = next_word lower lt h.both.under.here e

    pub lowers_few : stop < ceiling
    lowers_few = omega (arith, stop_is, h.both.few_under)

    -- what is left of them
    pub record Going (q : ℕ) (b : Spot) (l m x y marks : List ℕ) (n i : ℕ) : Type 0 where
      pub left : Forest
      pub stands : Stand lower lt k q stop left
      pub done : List Field
      pub is : mended fs gs ≡ done ++ mended (pairs_of left) gs
      pub calm : clashing fs gs ≡ clashing (pairs_of left) gs
      pub stored : Stored p (bares done) a b l m x y
      pub marked : Marks upper ut gs marks n i (pairs_of left)

    pub going_start : {l x marks : List ℕ} → Going (r + 1) a l l x x marks 0 0
    unfolding unspans
    going_start =
        let o = inside lower lt stop e h.both.under in
        record {
          left = o.trees;
          stands = o.stands;
          done = [];
          is = ap (λ (us : List Field). mended us gs) o.are;
          calm = ap (λ (us : List Field). clashing us gs) o.are;
          stored = stored_none;
          marked = marks_end;
        }

    module _ (q : ℕ) (b : Spot) (l m x y marks : List ℕ) (n i : ℕ) (g : Going q b l m x y marks n i) where
      pub going_end : stop ≤ q → Lowered fs gs p a l m x y (Ok b)
      unfolding mended clashing
      going_end z =
          let o = stand_none lower lt g.stands z in
          lowered
          (g.calm ∙ ap (λ (us : List Field). clashing us gs) o)
          (stored_as (sym (ap bares (g.is ∙ (ap (λ (us : List Field). g.done ++ mended us gs) o ∙ append-nil g.done)))) g.stored)

      module _ (z : q < stop) where
        pub going_refill : Refill lower lt q stop upper ut s marks n i
        going_refill =
            record {
              match =
                  record {
                    deep = k;
                    trees = g.left;
                    stands = g.stands;
                    few = lowers_few;
                    level = k;
                    object = h.both.above;
                    few_others = omega (arith, next_word upper ut h.both.above.here refl, h.both.few_above);
                  };
              marked = g.marked;
            }

        one : Pair lower lt k q stop g.left
        one = stand_first lower lt g.stands z

        pub going_word : width * (q + 1) + 6 < length lower
        going_word = word_in lower lt one.val_here 6 (omega arith)

        pub going_next : q + 1 < ceiling
        going_next = omega (arith, one.onward, one.within, lowers_few)

        pub going_ahead : {j : ℕ} → j ≡ get_or lower (width * (q + 1) + 6) 0 → (q < j) × (j ≤ stop)
        going_ahead f = (omega (arith, one.onward), omega (arith, one.within))

        abbrev x_of : Value
        x_of = value_of (text_of one.key) gs

        abbrev new : Field
        new = field one.key (topped one.val x_of)

        all_is : mended fs gs ≡ g.done ++ (new ∷ mended (pairs_of one.rest) gs)
        unfolding mended
        all_is = g.is ∙ ap (λ (us : List Field). g.done ++ mended us gs) one.is

        calm_is : clashing fs gs ≡ or (clash_at one.val x_of) (clashing (pairs_of one.rest) gs)
        unfolding clashing
        calm_is = g.calm ∙ ap (λ (us : List Field). clashing us gs) one.is

        room : Fits b (bares (new ∷ []))
        room =
            let us = mended (pairs_of one.rest) gs in
            let f : Fits a (beside (bares g.done) (bares ((new ∷ []) ++ us))) = fits_as (ap bares all_is ∙ bares_append g.done (new ∷ us)) h.fits in
            fits_first (bares (new ∷ [])) (bares us) (fits_as (bares_append (new ∷ []) us) (fits_behind (bares ((new ∷ []) ++ us)) f g.stored))

        module _ (marks₁ : List ℕ) (n₁ i₁ most : ℕ) (w : Refilled lower lt q stop upper ut s marks n i marks₁ most n₁ i₁) where
          now_marked : Mark upper ut gs (text_of one.key) (row_of (get_or marks₁ i₁ 0)) × Marks upper ut gs marks₁ n₁ (i₁ + 1) (pairs_of one.rest)
          unfolding going_refill
          now_marked = marks_first one.is w.some (w.marked going_refill)

          pub going_topping : {j : Option ℕ} → j ≡ row_of (get_or marks₁ i₁ 0) → Topping lower lt q upper ut j k b
          going_topping {j} f =
              record {
                key = one.key;
                val = one.val;
                gs = gs;
                key_kept = one.key_kept;
                key_here = one.key_here;
                val_sane = one.val_sane;
                val_here = one.val_here;
                props = sane_props h.both.above.sane h.both.above.object;
                mark = subst (Mark upper ut gs (text_of one.key)) (sym f) now_marked.0;
                few_under = omega (arith, next_word lower lt one.val_here refl, one.within, lowers_few);
                fits = room;
              }

          module _ {j : Option ℕ} (f : j ≡ row_of (get_or marks₁ i₁ 0)) (v : Result Spot Clash) (m' y' : List ℕ)
              (t : (o : Topping lower lt q upper ut j k b) → Tops o.key o.val (value_of (text_of o.key) o.gs) p b m m' y y' v) where
            told : Tops one.key one.val x_of p b m m' y y' v
            unfolding going_topping
            told = t (going_topping f)

            pub going_clash : {e₁ e₂ : Clash} → v ≡ Err e₁ → {m'' y'' : List ℕ} → Lowered fs gs p a l m'' x y'' (Err e₂)
            going_clash u = lowered_clash (calm_is ∙ ap (λ (c : Bool). or c (clashing (pairs_of one.rest) gs)) (tops_clashed u told))

            pub going_on : (c : Spot) → v ≡ Ok c → {j' : ℕ} → j' ≡ get_or lower (width * (q + 1) + 6) 0 → (marks₂ : List ℕ) → ((d : ℕ) → d < n₁ → get_or marks₂ d 0 ≡ get_or marks₁ d 0)
                → Going j' c l m' x y' marks₂ n₁ (i₁ + 1)
            going_on c u {j'} d marks₂ o =
                let us = mended (pairs_of one.rest) gs in
                let z = tops_done u told in
                record {
                  left = one.rest;
                  stands = subst (λ (i : ℕ). Stand lower lt k i stop one.rest) (sym d) one.behind;
                  done = g.done ++ (new ∷ []);
                  is = all_is ∙ sym (append_assoc g.done (new ∷ []) us);
                  calm = calm_is ∙ ap (λ (c : Bool). or c (clashing (pairs_of one.rest) gs)) z.0;
                  stored = stored_as (sym (bares_append g.done (new ∷ []))) (stored_then g.stored z.1);
                  marked = marks_agree o now_marked.1;
                }

-- ---- THE UPPER'S NEW PAIRS

-- one of its keys, and m, the row of that key in the lower
pub record Adding (upper ut : List ℕ) (q : ℕ) (m : Option ℕ) (g : Grown) : Type 0 where
  pub lower : List ℕ
  pub lt : List ℕ
  pub deep : ℕ
  pub fs : List Field
  pub key : Tree
  pub val : Tree
  pub key_kept : Kept key
  pub key_here : At upper ut q key
  pub val_sane : Sane deep val
  pub val_here : At upper ut (q + 1) val
  pub mark : Mark lower lt fs (text_of key) m
  pub few : q + 1 + size val < ceiling
  pub few_pairs : g.count + 1 < ceiling
  pub fits : Fits g.at (bares (new_ones fs (field key val ∷ [])))

pub record Added (fs us : List Field) (p : ℕ) (g d : Grown) (l m x y : List ℕ) : Type 0 where
  pub stored : Stored p (bares (new_ones fs us)) g.at d.at l m x y
  pub counts : d.count ≡ g.count + count (new_ones fs us)

module _ (upper ut : List ℕ) (q : ℕ) (m : Option ℕ) (g : Grown) (h : Adding upper ut q m g) where
  abbrev us₁ : List Field
  us₁ = field h.key h.val ∷ []

  -- the lower has it
  pub adding_left : is_some m ≡ true → {p : ℕ} {l x : List ℕ} → Added h.fs us₁ p g g l l x x
  unfolding new_ones unspans
  adding_left z {p} {l} {x} =
      let w = marked_there h.mark (some_of m true (sym z) refl).1 in
      let e : new_ones h.fs us₁ ≡ [] = new_left h.fs h.key h.val [] w.is in
      record { stored = stored_as (sym (ap bares e)) stored_none; counts = omega (arith, ap count e) }

  module _ (z : is_some m ≡ false) where
    new_is : new_ones h.fs us₁ ≡ us₁
    unfolding new_ones
    new_is = new_kept h.fs h.key h.val [] (marked_missing h.mark z)

    rooms : Fits g.at (beside (alone (unspan h.key)) (alone (unspan h.val)))
    rooms = fits_as (ap bares new_is ∙ bares_pair h.key h.val) h.fits

    pub adding_key : Keep upper ut q g.at
    adding_key = fits_keep upper ut h.key h.key_kept h.key_here (fits_first (alone (unspan h.key)) (alone (unspan h.val)) rooms)

    module _ {p : ℕ} {b : Spot} {l l' x x' : List ℕ} (f : (i : Keep upper ut q g.at) → Stored p (alone (unspan i.tree)) g.at b l l' x x') where
      stored_key : Stored p (alone (unspan h.key)) g.at b l l' x x'
      unfolding adding_key fits_keep
      stored_key = f adding_key

      pub adding_value : Keep upper ut (q + 1) b
      adding_value = fits_keep upper ut h.val (kept_value h.val_sane.shaped) h.val_here (fits_behind (alone (unspan h.val)) rooms stored_key)

      pub adding_done : {l'' x'' : List ℕ} (c : Spot) → ((i : Keep upper ut (q + 1) b) → Stored p (alone (unspan i.tree)) b c l' l'' x' x'') → (d : Grown) → d.at ≡ c
          → d.count ≡ g.count + 1 → Added h.fs us₁ p g d l l'' x x''
      unfolding adding_value fits_keep
      adding_done {l''} {x''} c t d i o =
          let u = t adding_value in
          record {
            stored = subst (λ (w : Spot). Stored p (bares (new_ones h.fs us₁)) g.at w l l'' x x'') (sym i) (stored_as (sym (ap bares new_is ∙ bares_pair h.key h.val)) (stored_then stored_key u));
            counts = o ∙ ap (λ (w : ℕ). g.count + w) (sym (ap count new_is));
          }

module _ (upper ut : List ℕ) (s : ℕ) (lower lt : List ℕ) (r k : ℕ) (a : Spot) (h : News upper ut s lower lt r k a) where
  abbrev fs₂ : List Field
  fs₂ = pairs h.both.under.tree

  abbrev gs₂ : List Field
  gs₂ = pairs h.both.above.tree

  pub news_word : width * s + 6 < length upper
  news_word = word_in upper ut h.both.above.here 6 (omega arith)

  pub news_first : s + 1 < ceiling + 1
  news_first = omega (arith, h.both.few_above, size_some h.both.above.tree)

  module _ (stop : ℕ) (e : stop ≡ get_or upper (width * s + 6) 0) (p : ℕ) where
    pub news_few : stop < ceiling
    news_few = omega (arith, next_word upper ut h.both.above.here e, h.both.few_above)

    pub record Newing (q : ℕ) (g : Grown) (l m x y marks : List ℕ) (n i : ℕ) : Type 0 where
      pub left : Forest
      pub stands : Stand upper ut k q stop left
      pub done : List Field
      pub is : new_ones fs₂ gs₂ ≡ done ++ new_ones fs₂ (pairs_of left)
      pub stored : Stored p (bares done) a g.at l m x y
      pub counts : g.count ≡ count done
      pub few_count : g.count + 1 ≤ q
      pub marked : Marks lower lt fs₂ marks n i (pairs_of left)

    pub newing_start : {l x marks : List ℕ} (g : Grown) → g.at ≡ a → g.count ≡ 0 → Newing (s + 1) g l l x x marks 0 0
    unfolding unspans
    newing_start {l} {x} g i c =
        let o = inside upper ut stop e h.both.above in
        record {
          left = o.trees;
          stands = o.stands;
          done = [];
          is = ap (new_ones fs₂) o.are;
          stored = subst (λ (w : Spot). Stored p none a w l l x x) (sym i) stored_none;
          counts = c;
          few_count = omega arith;
          marked = marks_end;
        }

    module _ (q : ℕ) (g : Grown) (l m x y marks : List ℕ) (n i : ℕ) (w : Newing q g l m x y marks n i) where
      pub newing_end : stop ≤ q → Grew fs₂ gs₂ p a g l m x y
      unfolding new_ones
      newing_end z =
          let o = stand_none upper ut w.stands z in
          let u : new_ones fs₂ gs₂ ≡ w.done = w.is ∙ (ap (λ (us : List Field). w.done ++ new_ones fs₂ us) o ∙ append-nil w.done) in
          record { stored = stored_as (sym (ap bares u)) w.stored; counts = w.counts ∙ sym (ap count u) }

      module _ (z : q < stop) where
        pub newing_refill : Refill upper ut q stop lower lt r marks n i
        newing_refill =
            record {
              match =
                  record {
                    deep = k;
                    trees = w.left;
                    stands = w.stands;
                    few = news_few;
                    level = k;
                    object = h.both.under;
                    few_others = omega (arith, next_word lower lt h.both.under.here refl, h.both.few_under);
                  };
              marked = w.marked;
            }

        first : Pair upper ut k q stop w.left
        first = stand_first upper ut w.stands z

        pub newing_word : width * (q + 1) + 6 < length upper
        newing_word = word_in upper ut first.val_here 6 (omega arith)

        pub newing_next : q + 1 < ceiling
        newing_next = omega (arith, first.onward, first.within, news_few)

        pub newing_ahead : {j : ℕ} → j ≡ get_or upper (width * (q + 1) + 6) 0 → (q < j) × (j ≤ stop)
        newing_ahead f = (omega (arith, first.onward), omega (arith, first.within))

        abbrev it : List Field
        it = field first.key first.val ∷ []

        news_is : new_ones fs₂ gs₂ ≡ w.done ++ (new_ones fs₂ it ++ new_ones fs₂ (pairs_of first.rest))
        news_is = w.is ∙ (ap (λ (us : List Field). w.done ++ new_ones fs₂ us) first.is ∙ ap (λ (us : List Field). w.done ++ us) (new_append fs₂ it (pairs_of first.rest)))

        roomy : Fits g.at (bares (new_ones fs₂ it))
        roomy =
            let us = new_ones fs₂ (pairs_of first.rest) in
            let ns = new_ones fs₂ it in
            let f : Fits a (beside (bares w.done) (bares (ns ++ us))) = fits_as (ap bares news_is ∙ bares_append w.done (ns ++ us)) h.fits in
            fits_first (bares ns) (bares us) (fits_as (bares_append ns us) (fits_behind (bares (ns ++ us)) f w.stored))

        few_new : count (new_ones fs₂ it) ≤ 1
        unfolding new_ones
        few_new = by (value_of (text_of first.key) fs₂)
          where
            by : (v : Value) → count (Rattle.overlay.specs.Overlay.at (λ u. []) (field first.key first.val ∷ []) v) ≤ 1
            by (value u) = omega arith
            by absent = omega arith

        module _ (marks₁ : List ℕ) (n₁ i₁ most : ℕ) (t : Refilled upper ut q stop lower lt r marks n i marks₁ most n₁ i₁) where
          marked_now : Mark lower lt fs₂ (text_of first.key) (row_of (get_or marks₁ i₁ 0)) × Marks lower lt fs₂ marks₁ n₁ (i₁ + 1) (pairs_of first.rest)
          unfolding newing_refill
          marked_now = marks_first first.is t.some (t.marked newing_refill)

          pub newing_adding : {j : Option ℕ} → j ≡ row_of (get_or marks₁ i₁ 0) → Adding upper ut q j g
          newing_adding {j} f =
              record {
                lower = lower;
                lt = lt;
                deep = k;
                fs = fs₂;
                key = first.key;
                val = first.val;
                key_kept = first.key_kept;
                key_here = first.key_here;
                val_sane = first.val_sane;
                val_here = first.val_here;
                mark = subst (Mark lower lt fs₂ (text_of first.key)) (sym f) marked_now.0;
                few = omega (arith, next_word upper ut first.val_here refl, first.within, news_few);
                few_pairs = omega (arith, w.few_count, news_few);
                fits = roomy;
              }

          pub newing_on : {j : Option ℕ} → j ≡ row_of (get_or marks₁ i₁ 0) → (d : Grown) (m' y' : List ℕ) → ((o : Adding upper ut q j g) → Added o.fs (field o.key o.val ∷ []) p g d m m' y y')
              → {j' : ℕ} → j' ≡ get_or upper (width * (q + 1) + 6) 0 → Newing j' d l m' x y' marks₁ n₁ (i₁ + 1)
          unfolding newing_adding
          newing_on f d m' y' o {j'} u =
              let v = o (newing_adding f) in
              let ns = new_ones fs₂ it in
              let us = new_ones fs₂ (pairs_of first.rest) in
              record {
                left = first.rest;
                stands = subst (λ (i : ℕ). Stand upper ut k i stop first.rest) (sym u) first.behind;
                done = w.done ++ ns;
                is = news_is ∙ sym (append_assoc w.done ns us);
                stored = stored_as (sym (bares_append w.done ns)) (stored_then w.stored v.stored);
                counts = v.counts ∙ (ap (λ (c : ℕ). c + count ns) w.counts ∙ sym (count_append w.done ns));
                few_count = omega (arith, v.counts, few_new, w.few_count, first.onward);
                marked = marked_now.1;
              }

-- ---- AN OBJECT OVER AN OBJECT

count_mended : (fs gs : List Field) → count (mended fs gs) ≡ count fs
unfolding mended
count_mended [] gs = refl
count_mended (field k v ∷ fs) gs = ap suc (count_mended fs gs)

few_pairs : (us : List Field) → count us ≤ sizes (bares us)
unfolding sizes unspans
few_pairs [] = omega arith
few_pairs (field d v ∷ us) = omega (arith, few_pairs us, size_some (unspan d))

module _ (lower lt : List ℕ) (r : ℕ) (upper ut : List ℕ) (s k : ℕ) (a : Spot) (h : Objects lower lt r upper ut s k a) where
  abbrev fs₃ : List Field
  fs₃ = pairs h.two.under

  abbrev gs₃ : List Field
  gs₃ = pairs h.two.above

  pub object_word : width * r + 4 < length lower
  object_word = word_in lower lt h.two.under_here 4 (omega arith)

  pub object_some : 1 ≤ k
  object_some = by k h.two.under_sane
    where
      by : (n : ℕ) → Sane n h.two.under → 1 ≤ n
      by zero x = absurd (clash h.under_object (sane_other x))
      by (suc n) x = omega arith

  less : {t : Tree} → Sane k t → Sane (suc (k - 1)) t
  less {t} x = let e : k ≡ suc (k - 1) = omega (arith, object_some) in subst (λ (n : ℕ). Sane n t) e x

  pub object_both : Both lower lt r upper ut s (k - 1)
  object_both =
      record {
        under = record { tree = h.two.under; sane = less h.two.under_sane; object = h.under_object; here = h.two.under_here };
        above = record { tree = h.two.above; sane = less h.two.above_sane; object = h.above_object; here = h.two.above_here };
        few_under = h.two.few_under;
        few_above = h.two.few_above;
      }

  result : unspan (over h.two.under h.two.above) ≡ node OBJECT 0 0 (count (laid_pairs fs₃ gs₃)) (bares (laid_pairs fs₃ gs₃))
  unfolding unspan
  result = ap unspan (over_objects h.two.under h.two.above h.under_object h.above_object)

  pairs_are : bares (laid_pairs fs₃ gs₃) ≡ beside (bares (mended fs₃ gs₃)) (bares (new_ones fs₃ gs₃))
  unfolding laid_pairs
  pairs_are = bares_append (mended fs₃ gs₃) (new_ones fs₃ gs₃)

  pub object_room : a.row + 1 < ceiling
  object_room =
      let t = node OBJECT 0 0 (count (laid_pairs fs₃ gs₃)) (bares (laid_pairs fs₃ gs₃)) in
      let f = fits_as (ap alone result) h.two.fits in
      omega (arith, f.rows_fit, alone_size t, head_size t)

  module _ (b : Spot) (i : b.row ≡ a.row + 1) (j : b.text ≡ a.text) where
    inner : Fits b (beside (bares (mended fs₃ gs₃)) (bares (new_ones fs₃ gs₃)))
    inner =
        let t = node OBJECT 0 0 (count (laid_pairs fs₃ gs₃)) (bares (laid_pairs fs₃ gs₃)) in
        let f = fits_as (ap alone result) h.two.fits in
        fits_as pairs_are (record { rows_fit = omega (arith, f.rows_fit, alone_size t, head_size t); text_fit = omega (arith, f.text_fit, ap length (alone_text t), own_length t) })

    pub object_lowers : Lowers lower lt r upper ut s (k - 1) b
    unfolding object_both
    object_lowers = record { both = object_both; fits = fits_first (bares (mended fs₃ gs₃)) (bares (new_ones fs₃ gs₃)) inner }

    module _ {l m x y : List ℕ} {v : Result Spot Clash} (t : (o : Lowers lower lt r upper ut s (k - 1) b) → Lowered (pairs o.both.under.tree) (pairs o.both.above.tree) a.row b l m x y v) where
      lower_told : Lowered fs₃ gs₃ a.row b l m x y v
      unfolding object_lowers object_both
      lower_told = t object_lowers

      pub object_clash : {e₁ e₂ : Clash} → v ≡ Err e₁ → {p : ℕ} {l' m' x' y' : List ℕ} → Lays h.two.under h.two.above p a l' m' x' y' (Err e₂)
      object_clash e = lays_clash (clashes_objects h.two.under h.two.above h.under_object h.above_object ∙ lowered_clashed e lower_told)

      module _ (c : Spot) (e : v ≡ Ok c) where
        pub object_news : News upper ut s lower lt r (k - 1) c
        unfolding object_both
        object_news = record { both = object_both; fits = fits_behind (bares (new_ones fs₃ gs₃)) inner (lowered_done e lower_told).1 }

        module _ (g : Grown) {n z : List ℕ} (u : (o : News upper ut s lower lt r (k - 1) c) → Grew (pairs o.both.under.tree) (pairs o.both.above.tree) a.row c g m n y z) where
          new_told : Grew fs₃ gs₃ a.row c g m n y z
          unfolding object_news object_both
          new_told = u object_news

          both_stored : Stored a.row (bares (laid_pairs fs₃ gs₃)) b g.at l n x z
          both_stored = stored_as (sym pairs_are) (stored_then (lowered_done e lower_told).1 new_told.stored)

          module _ (w : ℕ) (q : w ≡ get_or lower (width * r + 4) 0) where
            counted : w + g.count ≡ count (laid_pairs fs₃ gs₃)
            unfolding laid_pairs object_both
            counted =
                let o = inside lower lt (get_or lower (width * r + 6) 0) refl object_both.under in
                let d : count fs₃ ≡ get_or lower (width * r + 4) 0 = ap count o.are ∙ (pairs_count o.stands.pairs_are ∙ sym o.counts) in
                omega (arith, new_told.counts, count_append (mended fs₃ gs₃) (new_ones fs₃ gs₃), count_mended fs₃ gs₃)

            pub object_count : w + g.count < ceiling
            object_count = omega (arith, counted, few_pairs (laid_pairs fs₃ gs₃), inner.rows_fit, ap sizes pairs_are)

            pub object_next : g.at.row < ceiling
            object_next = omega (arith, both_stored.row_is, inner.rows_fit, ap sizes pairs_are)

            pub object_done : {p : ℕ} {n' : List ℕ} → n' ≡ sets n (width * a.row) (row_list unlined 9 0 0 0 (w + g.count) p g.at.row) → Lays h.two.under h.two.above p a l n' x z (Ok g.at)
            object_done o =
                lays_over
                (clashes_objects h.two.under h.two.above h.under_object h.above_object ∙ (lowered_done e lower_told).0)
                (stored_as
                (ap alone (ap (λ (f : ℕ). node OBJECT 0 0 f (bares (laid_pairs fs₃ gs₃))) counted ∙ sym result))
                (stored_node i j both_stored o))

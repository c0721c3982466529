-- THE WHOLE OVERLAY: two sound tables whose roots are objects, what is counted, and what is answered. Assumes nothing.
use Rattle.std.specs.Prelude.{◌≡◌, refl, List, ◌++◌, Bool, true, false, ℕ, ◌+◌, ◌*◌, ◌/◌, ◌≤◌, ◌<◌, length, get_or, drop, eqb}
use Rattle.std.proofs.Common.{sym, ap, subst, ◌∙◌, append-nil, arith}
use Rattle.std.proofs.lemmas.List.Edits.{sets, sets-eq}
use Rattle.notation.specs.Class.{pick}
use Rattle.exact.specs.Class.{clash}
use Rattle.exact.specs.Tells.{Tells, tells_yes, tells_no}
use Rattle.language.specs.Tree.{Tree, width, unlined, size, text_of, texts_of, rows_of, rowss}
use Rattle.language.specs.Alike.{unspan}
use Rattle.language.specs.Answered.{deepest, ROWS, TEXT, BADROW}
use Rattle.language.specs.Lent.{words_in, bytes_in}
use Rattle.language.specs.Sound.{Holds, Sound}
use Rattle.language.specs.Written.{Sounded, is_sound, unsound}
use Rattle.rooms.specs.Forest.{length_rows}
use Rattle.shaped.specs.Holds.{holds_at}
use Rattle.shaped.specs.Bare.{alike_at}
use Rattle.sound.specs.Standing.{At, kind_word, word_in}
use Rattle.overlay.specs.Overlay.{is_object, Laid, laid, overlay}
use Rattle.overlay.specs.Over.{clashes, over}
use Rattle.overlay.specs.Overlaid.{CLASH, HoldsObject, Given, fits, clashed, rows, bytes, Overlaid, gives, bad_lower, bad_upper}
use Rattle.overlay.specs.Unspanned.{unspan_twice, sane_unspan, unspan_object}
use Rattle.overlay.proofs.UnspannedLaws.{over_unspan}
use Rattle.overlay.specs.Profiles.{profile_sane}
use Rattle.overlay.proofs.ResultLaws.{overlay_laid, overlay_clash}
use Rattle.overlay.proofs.BoundsLaws.{over_rows, over_text}
use Rattle.lay.specs.declared.Spot.{Spot}
use Rattle.std.specs.Prelude.{Result, Ok, Err}
use Rattle.lay.specs.declared.Clash.{Clash}
use Rattle.lay.specs.Targets.{Stored, alone, alone_size, alone_text}
use Rattle.lay.specs.Keeping.{bare_size, bare_text}
use Rattle.lay.specs.Laying.{Lays, lays_over, lays_clash, Objects, object_kind}

-- where the targets begin
abbrev pub origin : Spot
origin = record { row = 0; text = 0 }

-- ---- A SOUND TABLE WHOSE ROOT IS AN OBJECT
pub record ObjectIn (table : List ℕ) (n : ℕ) (text : List ℕ) : Type 0 where
  pub tree : Tree
  pub held : HoldsObject table n text tree

holds_here : {table : List ℕ} {n : ℕ} {text : List ℕ} {t : Tree} → Holds table n text t → At table text 0 t
holds_here h = record { parent = 0; start = 0; rows = holds_at h; fits = omega (arith, h.rows_fit, h.count) }

module _ (table : List ℕ) (n : ℕ) (text : List ℕ) where
  told_sound : {m : ℕ} → Sounded table n text m → m ≡ 0 → Sound table n text
  told_sound (is_sound s) e = s
  told_sound (unsound u) e = absurd (omega arith)

  told_unsound : {m : ℕ} → Sounded table n text m → m ≡ BADROW → Sound table n text → ⊥
  told_unsound (is_sound s) e = absurd (omega arith)
  told_unsound (unsound u) e = u

  module _ {b : Bool} (h : Sounded table n text (pick b 0 BADROW)) where
    pub root_bad : b ≡ false → Tells (ObjectIn table n text) false
    root_bad e o = told_unsound h (ap (λ (c : Bool). pick c 0 BADROW) e) (record { tree = o.tree; holds = o.held.holds })

    module _ (e : b ≡ true) where
      it : Sound table n text
      it = told_sound h (ap (λ (c : Bool). pick c 0 BADROW) e)

      pub root_word : width * 0 + 0 < length table
      root_word = word_in table text (holds_here it.holds) 0 (omega arith)

      pub root_told : (w : ℕ) → w ≡ get_or table (width * 0 + 0) 0 → Tells (ObjectIn table n text) (eqb w 9)
      root_told w f = by (eqb w 9) refl
        where
          kind : {t : Tree} → Holds table n text t → is_object t ≡ eqb w 9
          kind {t} k = object_kind (profile_sane k.profile) ∙ ap (λ (i : ℕ). eqb i 9) (sym (kind_word table text (holds_here k) f))

          by : (c : Bool) → eqb w 9 ≡ c → Tells (ObjectIn table n text) c
          by true q = record { tree = it.tree; held = record { holds = it.holds; object = kind it.holds ∙ q } }
          by false q = λ o. clash o.held.object (kind o.held.holds ∙ q)

-- ---- TWO OF THEM
pub record Roots (lower lt upper ut : List ℕ) : Type 0 where
  pub m : ℕ
  pub n : ℕ
  pub under : Tree
  pub above : Tree
  pub under_held : HoldsObject lower m lt under
  pub above_held : HoldsObject upper n ut above

module _ (lower lt upper ut : List ℕ) (h : Roots lower lt upper ut) where
  abbrev t : Tree
  t = unspan h.under

  abbrev u : Tree
  u = unspan h.above

  bare_here : {table : List ℕ} {n : ℕ} {text : List ℕ} {v : Tree} → Holds table n text v → At table text 0 (unspan v)
  bare_here {table} {n} {text} {v} k =
      record {
        parent = 0;
        start = 0;
        rows = alike_at v (unspan v) (sym (unspan_twice v)) table text (holds_at k);
        fits = omega (arith, k.rows_fit, k.count, bare_size v);
      }

  pub roots_objects : Objects lower lt 0 upper ut 0 deepest origin
  roots_objects =
      let x = sane_unspan h.under (profile_sane h.under_held.holds.profile) in
      let y = sane_unspan h.above (profile_sane h.above_held.holds.profile) in
      let a = h.under_held.holds in
      let b = h.above_held.holds in
      record {
        two =
            record {
              under = t;
              above = u;
              under_sane = x;
              above_sane = y;
              under_here = bare_here a;
              above_here = bare_here b;
              few_under = omega (arith, bare_size h.under, a.rows_fit, a.count);
              few_above = omega (arith, bare_size h.above, b.rows_fit, b.count);
              fits =
                  record {
                    rows_fit = omega (arith, alone_size (unspan (over t u)), bare_size (over t u), over_rows deepest t u x y, bare_size h.under, bare_size h.above, a.rows_fit, a.count, b.rows_fit, b.count);
                    text_fit =
                        omega (
                          arith,
                          ap length (alone_text (unspan (over t u))),
                          ap length (bare_text (over t u)),
                          over_text deepest t u x y,
                          ap length (bare_text h.under),
                          ap length (bare_text h.above),
                          a.text_fits,
                          b.text_fits,
                        );
                  };
            };
        under_object = unspan_object h.under ∙ h.under_held.object;
        above_object = unspan_object h.above ∙ h.above_held.object;
      }

  pub roots_told : {p : ℕ} {l m x y : List ℕ} {v : Result Spot Clash} → ((o : Objects lower lt 0 upper ut 0 deepest origin) → Lays o.two.under o.two.above p origin l m x y v) → Lays t u p origin l m x y v
  unfolding roots_objects
  roots_told f = f roots_objects

-- ---- WHAT IS COUNTED
pub data Counts (t u : Tree) : Result Spot Clash → Type 0 where
  counts : {b : Spot} → clashes t u ≡ false → b.row ≡ size (over t u) → b.text ≡ length (text_of (over t u)) → Counts t u (Ok b)
  counts_clash : {e : Clash} → clashes t u ≡ true → Counts t u (Err e)

pub lays_counts : {t u : Tree} {p : ℕ} {l m x y : List ℕ} {v : Result Spot Clash} → Lays t u p origin l m x y v → Counts t u v
lays_counts {t} {u} (lays_over {b = b} c s) =
    counts {b = b} c (omega (arith, s.row_is, alone_size (unspan (over t u)), bare_size (over t u))) (omega (arith, s.text_is, ap length (alone_text (unspan (over t u))), ap length (bare_text (over t u))))
lays_counts (lays_clash c) = counts_clash c

spot_of : Spot → Result Spot Clash → Spot
spot_of d (Ok b) = b
spot_of d (Err e) = d

same_spot : {b c : Spot} → ◌≡◌ {A = Result Spot Clash} (Ok b) (Ok c) → b ≡ c
unfolding spot_of
same_spot {b} e = ap (spot_of b) e

not_both : {b : Spot} {d : Clash} → Ok b ≡ Err d → ⊥
not_both e = let z : ◌≡◌ {A = ℕ} 0 1 = cc in omega arith

record Counted (t u : Tree) (b : Spot) : Type 0 where
  calm : clashes t u ≡ false
  rows_are : b.row ≡ size (over t u)
  text_is : b.text ≡ length (text_of (over t u))

counted : {t u : Tree} {v : Result Spot Clash} {b : Spot} → v ≡ Ok b → Counts t u v → Counted t u b
counted {t} {u} e (counts {b = b} c i j) = subst (Counted t u) (same_spot e) (record { calm = c; rows_are = i; text_is = j })
counted e (counts_clash c) = absurd (not_both (sym e))

counted_clash : {t u : Tree} {v : Result Spot Clash} → ((b : Spot) → v ≡ Ok b → ⊥) → Counts t u v → clashes t u ≡ true
counted_clash e (counts {b = b} c i j) = absurd (e b refl)
counted_clash e (counts_clash c) = c

-- ---- WHAT IS ANSWERED
filled : (table text table' text' : List ℕ) (r : Tree) {b : Spot} → width * size r ≤ words_in table → length (text_of r) ≤ bytes_in text → Stored 0 (alone r) origin b table table' text text'
    → (table' ≡ rows_of unlined 0 0 0 r ++ drop (width * size r) table) × (text' ≡ text_of r ++ drop (length (text_of r)) text)
unfolding rowss texts_of
filled table text table' text' r h k s =
    let v = rows_of unlined 0 0 0 r in
    let n = length_rows unlined 0 0 0 r in
    let z : 0 + length v ≡ width * size r = omega arith in
    let y : 0 + length (text_of r) ≡ length (text_of r) = omega arith in (
      s.table ∙ (ap (sets table 0) (append-nil v) ∙ (sets-eq v table 0 (omega arith) ∙ ap (λ (i : ℕ). v ++ drop i table) z)),
      s.texts ∙ (ap (sets text 0) (append-nil (text_of r)) ∙ (sets-eq (text_of r) text 0 (omega arith) ∙ ap (λ (i : ℕ). text_of r ++ drop i text) y)),
    )

module _ (lower lt upper ut : List ℕ) (h : Roots lower lt upper ut) (table text : List ℕ) {v : Result Spot Clash} (g : (o : Roots lower lt upper ut) → Counts (unspan o.under) (unspan o.above) v) where
  abbrev a₁ : Tree
  a₁ = unspan h.under

  abbrev b₁ : Tree
  b₁ = unspan h.above

  -- the overlay has no spans
  bare_result : unspan (over a₁ b₁) ≡ over a₁ b₁
  bare_result = ap unspan (over_unspan h.under h.above) ∙ (unspan_twice (over h.under h.above) ∙ sym (over_unspan h.under h.above))

  pub answer_clash : ((b : Spot) → v ≡ Ok b → ⊥) → Given table text (overlay h.under h.above) CLASH 0 0 table text
  answer_clash e = subst (λ (o : Laid). Given table text o CLASH 0 0 table text) (sym (overlay_clash h.under h.above (counted_clash e (g h)))) clashed

  module _ (b : Spot) (e : v ≡ Ok b) where
    it₁ : Counted a₁ b₁ b
    it₁ = counted e (g h)

    gives_laid : overlay h.under h.above ≡ laid (over a₁ b₁)
    gives_laid = overlay_laid h.under h.above it₁.calm

    module _ (n : ℕ) (f : n ≡ words_in table / width) where
      pub answer_rows : n < b.row → Given table text (overlay h.under h.above) ROWS b.row 0 table text
      answer_rows l =
          subst (λ (i : ℕ). Given table text (overlay h.under h.above) ROWS i 0 table text) (sym it₁.rows_are)
          (subst (λ (o : Laid). Given table text o ROWS (size (over a₁ b₁)) 0 table text) (sym gives_laid) (rows (over a₁ b₁) (omega (arith, it₁.rows_are))))

      module _ (k : b.row ≤ n) (d : ℕ) (q : d ≡ bytes_in text) where
        pub answer_bytes : d < b.text → Given table text (overlay h.under h.above) TEXT b.text 0 table text
        answer_bytes l =
            subst (λ (i : ℕ). Given table text (overlay h.under h.above) TEXT i 0 table text) (sym it₁.text_is)
            (subst (λ (o : Laid). Given table text o TEXT (length (text_of (over a₁ b₁))) 0 table text) (sym gives_laid)
            (bytes (over a₁ b₁) (omega (arith, it₁.rows_are)) (omega (arith, it₁.text_is))))

        pub answer_done : b.text ≤ d → {w : Result Spot Clash} {table' text' : List ℕ} → ((o : Roots lower lt upper ut) → Lays (unspan o.under) (unspan o.above) 0 origin table table' text text' w)
            → Given table text (overlay h.under h.above) 0 b.row b.text table' text'
        answer_done l {w} {table'} {text'} o = by (o h)
          where
            by : {w : Result Spot Clash} → Lays a₁ b₁ 0 origin table table' text text' w → Given table text (overlay h.under h.above) 0 b.row b.text table' text'
            by (lays_clash c) = absurd (clash c it₁.calm)
            by (lays_over {b = d} c x) =
                let r = over a₁ b₁ in
                let s : Stored 0 (alone r) origin d table table' text text' = subst (λ (z : Tree). Stored 0 (alone z) origin d table table' text text') bare_result x in
                let i : width * size r ≤ words_in table = omega (arith, it₁.rows_are) in
                let j : length (text_of r) ≤ bytes_in text = omega (arith, it₁.text_is) in
                let y = filled table text table' text' r i j s in
                subst (λ (z : ℕ). Given table text (overlay h.under h.above) 0 z b.text table' text') (sym it₁.rows_are)
                (subst (λ (z : ℕ). Given table text (overlay h.under h.above) 0 (size r) z table' text') (sym it₁.text_is)
                (subst (λ (z : Laid). Given table text z 0 (size r) (length (text_of r)) table' text') (sym gives_laid)
                (subst (λ (z : List ℕ). Given table text (laid r) 0 (size r) (length (text_of r)) z text') (sym y.0)
                (subst (λ (z : List ℕ). Given table text (laid r) 0 (size r) (length (text_of r)) (rows_of unlined 0 0 0 r ++ drop (width * size r) table) z) (sym y.1) (fits r i j)))))

-- ---- THE PROMISE
module _ (lower : List ℕ) (m : ℕ) (lt upper : List ℕ) (n : ℕ) (ut : List ℕ) where
  module _ {a b : Bool} (x : Tells (ObjectIn lower m lt) a) (p : a ≡ true) (y : Tells (ObjectIn upper n ut) b) (q : b ≡ true) where
    under_in : ObjectIn lower m lt
    under_in = tells_yes a p x

    above_in : ObjectIn upper n ut
    above_in = tells_yes b q y

    pub promise_roots : Roots lower lt upper ut
    promise_roots = record { m = m; n = n; under = under_in.tree; above = above_in.tree; under_held = under_in.held; above_held = above_in.held }

    pub promise_laid : {c i j : ℕ} {table text table' text' : List ℕ} → ((o : Roots lower lt upper ut) → Given table text (overlay o.under o.above) c i j table' text')
        → Overlaid lower m lt upper n ut table text c i j table' text'
    unfolding promise_roots
    promise_laid f = gives under_in.tree above_in.tree under_in.held above_in.held (f promise_roots)

  pub promise_bad_upper : {b : Bool} → Tells (ObjectIn upper n ut) b → b ≡ false → {table text : List ℕ} → Overlaid lower m lt upper n ut table text BADROW 0 0 table text
  promise_bad_upper {b} y q = bad_upper (λ u h. tells_no b q y (record { tree = u; held = h }))

  pub promise_bad_lower : {a : Bool} → Tells (ObjectIn lower m lt) a → a ≡ false → {table text : List ℕ} → Overlaid lower m lt upper n ut table text BADROW 0 0 table text
  promise_bad_lower {a} x p = bad_lower (λ t h. tells_no a p x (record { tree = t; held = h }))

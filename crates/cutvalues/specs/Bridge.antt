-- FROM FIELDS WITHOUT PARTS TO A CONTENT THAT IS CUT: what lies whole before the nearest cut is tested where it stands (`bridge_good`, `bridge_bad`), and so are members one behind another (`bridge_passed`, `bridge_stuck`). Assumes nothing.
use Rattle.std.specs.Prelude.{◌≡◌, refl, Bool, true, false, ℕ, suc, ◌+◌, ◌-◌, ◌*◌, ◌/◌, ◌%◌, ◌≤◌, ◌<◌, take, drop}
use Rattle.std.proofs.Common.{sym, ap, ap₂, subst, ◌∙◌, length-append, length-drop, drop-drop, length-take-le, take_all}
use mathlib.Core.List.{List, [], ◌∷◌, ◌++◌, append_assoc, append-nil}
use native.Mathlib.Omega.{arith}
use Rattle.std.proofs.Math.Decide.{dec_le}
use Rattle.std.proofs.Math.ListN.{length}
use Rattle.std.proofs.Math.Seq.{slice, length-slice, take-append-add}
use Rattle.std.proofs.lemmas.List.{drop-append-le, take-append-le}
use Rattle.language.specs.Tree.{Tree, node, Forest, none, more, size, sizes, text_of, texts_of}
use Rattle.shaped.specs.Shaped.{Shaped, shaped_object}
use Rattle.stored.specs.Form.{tagged, head, widest, PART, tag, cut, content, forms, form}
use Rattle.stored.specs.Parts.{widest_is}
use Rattle.stored.proofs.PartsLaws.{cut_short, cut_long}
use Rattle.stored.specs.Old as old
use Rattle.stored.proofs.OldLengthsLaws.{content_length, short_old, short_now}
use Rattle.stored.specs.Bytes.{At, at_left, at_right, at_as, at_byte, at_join, at_place, slice_at}
use Rattle.sound.specs.Members.{One, one, Member, pair, element, container_kind, Many, many_pairs, contained, array_distinct}
use Rattle.uncut.specs.Heads.{end_at, Whole}
use Rattle.uncut.specs.Tested as uncut
use Rattle.uncut.specs.Walk as walk
use Rattle.std.specs.declared.option.Option.TheVariants.{None}
use Rattle.wide.specs.Tests.{Good, Tests, one_form, two_forms, alone, none_alone}
use Rattle.wide.specs.Walk.{Passed}

-- few members have the fields of Ticket 4, and as many text bytes as are no heads
forms_same : (fs : Forest) → length (old.forms fs) ≤ 65535 → forms fs ≡ old.forms fs
unfolding content old.content
forms_same none l = refl
forms_same (more t ts) l =
    let n = length-append (old.form t) (old.forms ts) in
    ap₂ (λ (s u : List ℕ). s ++ u) (short_old t (omega (arith, widest_is))) (forms_same ts (omega arith))

members_shaped : (o : Bool) {k n : ℕ} {fs : Forest} → Many (Member o k) n fs → Shaped (suc k) (node (container_kind o) 0 0 n fs)
members_shaped true m = shaped_object (many_pairs m)
members_shaped false m = (contained false m (array_distinct m)).shaped

members_length : (o : Bool) {k n : ℕ} (fs : Forest) → Many (Member o k) n fs → length (old.forms fs) ≡ head * sizes fs + length (texts_of fs)
unfolding old.content size text_of
members_length o fs m = let h = content_length (members_shaped o m) in omega arith

-- whole fields of a member stand at a place
abbrev pub Heads : List ℕ → Bool → ℕ → ℕ → Type 0
Heads near true e m = Whole near e m × Whole near (end_at near e) m
Heads near false e m = Whole near e m

-- the m bytes of a content from a place on, where they stand one behind another
pub record Near (v near : List ℕ) (at m : ℕ) : Type 0 where
  pub is : slice at (at + m) v ≡ near
  pub inside : at + m ≤ length v
  pub few : m ≤ 65535

module _ {v near : List ℕ} {at m : ℕ} (h : Near v near at m) where
  near_length : length near ≡ m
  near_length = ap length (sym h.is) ∙ (length-slice at (at + m) v h.inside ∙ omega arith)

  -- the content from a place on is the run from there on, and what is behind it
  record Split (e : ℕ) : Type 0 where
    behind : List ℕ
    is : drop (at + e) v ≡ drop e near ++ behind

  split : (e : ℕ) → e ≤ m → Split e
  split e l =
      let y = slice_at {stored = v} at (at + m) (omega arith) h.inside in
      record {
        behind = y.behind;
        is = sym (drop-drop e at v) ∙ (ap (drop e) (y.is ∙ ap (λ (w : List ℕ). w ++ y.behind) h.is) ∙ drop-append-le e near y.behind (omega (arith, near_length)));
      }

  -- bytes that stand in the run stand in the content, and back
  outward : {e : ℕ} (s : List ℕ) → e ≤ m → At near e s → At v (at + e) s
  outward {e} s l x =
      let y = split e l in
      record { behind = x.behind ++ y.behind; is = y.is ∙ (ap (λ (w : List ℕ). w ++ y.behind) x.is ∙ append_assoc s x.behind y.behind) }

  inward : {e : ℕ} (s : List ℕ) → At v (at + e) s → e + length s ≤ m → At near e s
  inward {e} s x o =
      let y = split e (omega arith) in
      let n : length (drop e near) ≡ m - e = length-drop e near ∙ omega (arith, near_length) in
      let z : drop e near ++ y.behind ≡ s ++ x.behind = sym y.is ∙ x.is in
      let f : drop e near ≡ take (m - e) (s ++ x.behind) = sym (take-append-le (m - e) (drop e near) y.behind (omega arith) ∙ take_all (m - e) (drop e near) (omega arith)) ∙ ap (take (m - e)) z in
      record { behind = take (m - e - length s) x.behind; is = f ∙ by }
    where
      by : take (m - e) (s ++ x.behind) ≡ s ++ take (m - e - length s) x.behind
      by = ap (λ i. take i (s ++ x.behind)) (let q : m - e ≡ length s + (m - e - length s) = omega arith in q) ∙ take-append-add s x.behind (m - e - length s)

  -- three bytes of a head tell where a field ends
  head_end : (e k : ℕ) (c r : List ℕ) → At v (at + e) (tagged k c ++ r) → e + 3 ≤ m → end_at near e ≡ e + head + length c
  unfolding end_at
  head_end e k c r x o =
      let hd = k ∷ length c / 256 ∷ length c % 256 ∷ [] in
      let y = inward {e = e} hd (at_left v hd (c ++ r) x) (omega arith) in
      let a = at_byte hd 1 y (omega arith) in
      let b = at_byte hd 2 y (omega arith) in
      omega arith

  -- where a whole field stands in the run, the tree whose field stands there in the content stands in the run
  record Inside (e : ℕ) (t : Tree) : Type 0 where
    here : At near e (old.form t)
    same : form t ≡ old.form t
    ends : end_at near e ≡ e + length (form t)

  tree_inside : {e : ℕ} (t : Tree) → Whole near e m → At v (at + e) (form t) → Inside e t
  tree_inside {e} t w x = by (dec_le (length (content t)) widest)
    where
      by : Dec (length (content t) ≤ widest) → Inside e t
      by (yes i) =
          let c = cut_short (tag t) (content t) i in
          let u : At v (at + e) (tagged (tag t) (content t) ++ []) = at_as (c ∙ sym (append-nil (tagged (tag t) (content t)))) x in
          let z = head_end e (tag t) (content t) [] u (omega (arith, w.begins)) in
          let g = ap length c in
          let y = short_now t (omega (arith, widest_is, w.ends, h.few)) in
          record { here = at_as y (inward (form t) x (omega (arith, w.ends))); same = y; ends = omega arith }
      by (no i) =
          let j : widest < length (content t) = omega arith in
          let u = at_as (cut_long (tag t) (content t) j) x in
          let z = head_end e PART (take widest (content t)) (cut (tag t) (drop widest (content t))) u (omega (arith, w.begins)) in
          let n = length-take-le widest (content t) (omega arith) in
          absurd (omega (arith, w.ends, widest_is, h.few))

  -- .. and so does a member
  module _ {e : ℕ} where
    two_inside : (t u : Tree) → Heads near true e m → At v (at + e) (forms (more t (more u none))) → Inside e t × Inside (e + length (old.form t)) u
    two_inside t u w x =
        let y = at_as (two_forms t u) x in
        let i = tree_inside t w.0 (at_left v (form t) (form u) y) in
        let n = ap length i.same in
        let p : end_at near e ≡ e + length (old.form t) = omega (arith, i.ends) in
        let q : at + e + length (form t) ≡ at + (e + length (old.form t)) = omega arith in
        (i, tree_inside u (subst (λ a. Whole near a m) p w.1) (at_place q (at_right v (form t) (form u) refl y)))

    -- WHERE NO MEMBER STANDS in the run, none stands in the content, if whole fields are there
    pub bridge_stuck : (o : Bool) {k stop : ℕ} → Heads near o e m → uncut.Tests near (Member o k) e m None → Tests v (Member o k) (at + e) stop None
    bridge_stuck o {k} w f ts q x l = by o w f q x
      where
        by : (o : Bool) → Heads near o e m → uncut.Tests near (Member o k) e m None → {ts : Forest} → Member o k ts → At v (at + e) (forms ts) → ⊥
        by false w f (element {t = t} s) x =
            let i = tree_inside t w (at_as (one_form t) x) in
            f (more t none) (element s) (at_as (sym (uncut.one_form t)) i.here) (omega (arith, i.ends, w.ends, ap length (uncut.one_form t), ap length i.same))
        by true w f (pair {t = t} {v = u} s d) x =
            let b = two_inside t u w x in
            let i = b.0 in
            let j = b.1 in
            let n = ap length i.same in
            let p : end_at near e ≡ e + length (old.form t) = omega (arith, i.ends) in
            let z = ap (end_at near) p in
            f (more t (more u none)) (pair s d) (at_as (sym (uncut.two_forms t u)) (at_join (old.form t) (old.form u) i.here j.here refl))
            (omega (arith, j.ends, w.1.ends, ap length (uncut.two_forms t u), length-append (old.form t) (old.form u), ap length j.same))

  at_first : {s : List ℕ} → At v at s → At v (at + 0) s
  at_first = at_place (let e : at ≡ at + 0 = omega arith in e)

  first_at : {s : List ℕ} → At v (at + 0) s → At v at s
  first_at = at_place (let e : at + 0 ≡ at = omega arith in e)

  -- MEMBERS PASSED in the run are passed in the content
  pub bridge_passed : (o : Bool) {k stop e n rows : ℕ} → at + m ≤ stop → walk.Passed near o k 0 m e n rows → Passed v o k at stop (at + e) n rows (e - 3 * rows)
  bridge_passed o l p =
      let fs = p.front in
      let s = forms_same fs (omega (arith, p.place, p.inside, h.few)) in
      let n = members_length o fs p.many in
      record {
        front = fs;
        many = p.many;
        here = first_at (at_as (sym s) (outward (old.forms fs) (omega arith) p.here));
        place = omega (arith, p.place, ap length s);
        count = p.count;
        text = omega (arith, p.place, p.count);
        inside = omega (arith, p.inside);
      }

  module _ {P : Tree → Type 0} {stop : ℕ} (below : at + m ≤ stop) where
    -- A FIELD THAT IS GOOD
    pub bridge_good : {i n : ℕ} → ((t : Tree) → P t → length (old.form t) ≡ head * size t + length (text_of t)) → uncut.Tests near (One P) 0 m (uncut.Good i n) → Tests v (One P) at stop (Good (at + i) n (i - 3 * n))
    bridge_good {i} {n} p s =
        let o = uncut.lone near s in
        let t = o.tree in
        let f : form t ≡ old.form t = short_old t (omega (arith, o.end, o.below, widest_is, h.few)) in
        let g = ap length f in
        let b = p t o.good in
        alone v t o.good (first_at (at_as (sym f) (outward (old.form t) (omega arith) o.here))) (at + i) n (i - 3 * n) (omega (arith, o.end)) o.rows (omega (arith, o.end, o.rows)) (omega (arith, o.below))

    -- WHERE NO TREE STANDS in the run, none stands in the content, if a whole field is there
    pub bridge_bad : Whole near 0 m → uncut.Tests near (One P) 0 m None → Tests v (One P) at stop None
    bridge_bad w f =
        none_alone v
        (λ t q x o.
        let i = tree_inside t w (at_first x) in
        f (more t none) (one q) (at_as (sym (uncut.one_form t)) i.here) (omega (arith, i.ends, w.ends, ap length (uncut.one_form t), ap length i.same)))

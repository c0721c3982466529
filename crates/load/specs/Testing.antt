-- WHAT TESTING THE WHOLE TELLS (`Told`), of stored bytes that one field holds and of more: nothing may stand behind the root's field. Assumes nothing.
use Rattle.std.specs.Prelude.{◌≡◌, refl, List, [], ℕ, ◌-◌, ◌*◌, ◌≤◌, ◌<◌, length, Some, None}
use Rattle.std.proofs.Common.{sym, ap, subst, ◌∙◌, append-nil, arith, rules}
use Rattle.std.proofs.Math.Seq.{slice, take-length}
use Rattle.language.specs.Tree.{Tree, none, more, size, text_of}
use Rattle.language.specs.Answered.{deepest}
use Rattle.language.specs.Lent.{lent}
use Rattle.stored.specs.Form.{form}
use Rattle.stored.specs.Parts.{widest_is}
use Rattle.uncut.specs.Short.{longest}
use Rattle.stored.specs.Old as old
use Rattle.stored.proofs.OldLengthsLaws.{short_old, short_now, form_length}
use Rattle.stored.specs.Bytes.{At, at_as, at_slice}
use Rattle.stored.proofs.ApartLaws.{form_apart}
use Rattle.stored.specs.Unspanned.{form_alike}
use Rattle.stored.specs.Loaded.{Kept}
use Rattle.stored.specs.Keeps.{kept_shaped}
use Rattle.sound.specs.Members.{Sane, One, one}
use Rattle.fields.specs.Rows.{size_some}
use Rattle.views.specs.Views.{viewed, view_file, Content}
use Rattle.uncut.specs.declared.tested.Tested.{Tested}
use Rattle.uncut.specs.Heads as heads
use Rattle.uncut.specs.Tested as uncut
use Rattle.std.specs.declared.option.Option.{Option}
use Rattle.std.specs.declared.option.Option.TheVariants.{Some, None}
use Rattle.wide.specs.declared.Walked.{Walked}
use Rattle.wide.specs.Tests as wide
use Rattle.load.specs.Loading.{Told, untold, told}

module _ (stored : List ℕ) where
  kept_sane : {t : Tree} → Kept stored t → Sane deepest t
  kept_sane k = record { shaped = kept_shaped k; once = k.holds.profile.once }

  whole_at_lem : (s : List ℕ) → s ≡ stored → At stored 0 s
  whole_at_lem s e = record { behind = []; is = sym (append-nil s ∙ e) }

  -- the tree that stands from the beginning to the end
  one_told : (t : Tree) (n b : ℕ) → Sane deepest t → At stored 0 (form t) → length (form t) ≡ length stored → n ≡ size t → b ≡ length (text_of t) → length stored ≤ lent → Told stored (Some (record { rows = record { 0 = n }; bytes = b }))
  one_told t n b s h l r x f =
      let z : slice 0 (length stored) stored ≡ form t = at_slice {e = length stored} (form t) h (omega arith) (omega arith) in
      told (record { tree = t; found = record { shaped = s.shaped; once = s.once; bytes = sym z ∙ take-length stored }; rows = sym r; bytes = sym x; few = f })

  pub told_over : lent < length stored → Told stored None
  told_over l = untold (λ t k. omega (arith, k.few))

  -- ---- bytes that one field holds

  module _ (few : length stored ≤ longest) where
    pub short_lies : heads.Lies stored 0 (length stored)
    short_lies = record { order = omega arith; inside = omega arith; few = few }

    kept_old : {t : Tree} → Kept stored t → old.form t ≡ stored
    kept_old {t} k = sym (short_now t (omega (arith, widest_is, ap length k.bytes))) ∙ k.bytes

    module _ (q : Option Tested) (z : uncut.Tests stored (One (Sane deepest)) 0 (length stored) q) where
      pub short_bad : q ≡ None → Told stored None
      short_bad e =
          let f : uncut.Tests stored (One (Sane deepest)) 0 (length stored) None = rw e at z in
          untold
          (λ t k.
          f (more t none) (one (kept_sane k)) (at_as (sym (uncut.one_form t)) (whole_at_lem (old.form t) (kept_old k)))
          (omega (arith, ap length (uncut.one_form t), ap length (kept_old k))))

      module _ (w : Tested) (g : q ≡ Some w) where
        root : uncut.Lone stored (Sane deepest) 0 (length stored) w.to w.rows
        root = let f : uncut.Tests stored (One (Sane deepest)) 0 (length stored) (Some w) = rw g at z in uncut.lone stored f

        pub short_heads : 3 * w.rows ≤ w.to
        short_heads = let r = root in omega (arith, r.end, r.rows, form_length r.good.shaped)

        pub short_few : w.rows ≤ longest
        short_few = let h = short_heads in let r = root in omega (arith, r.below)

        pub short_trailing : w.to < length stored → Told stored None
        short_trailing l =
            let r = root in
            untold (λ t k. omega (arith, heads.field_end t (whole_at_lem (old.form t) (kept_old k)), heads.field_end r.tree r.here, r.end, ap length (kept_old k)))

        pub short_good : length stored ≤ w.to → (b : ℕ) → b ≡ w.to - 3 * w.rows → Told stored (Some (record { rows = record { 0 = w.rows }; bytes = b }))
        short_good l b x =
            let r = root in
            let t = r.tree in
            let o : form t ≡ old.form t = short_old t (omega (arith, widest_is, r.end, r.below)) in
            one_told t w.rows b r.good (at_as (sym o) r.here) (ap length o ∙ omega (arith, r.end, r.below)) r.rows (omega (arith, r.end, r.rows, form_length r.good.shaped)) (omega arith)

  -- ---- more bytes, seen as they stand

  module _ (few : length stored ≤ lent) (starts : List ℕ) where
    pub long_content : Content stored starts 0 (length stored)
    long_content = record { low = omega arith; few = few; fits = omega (arith, ap length (view_file stored starts)) }

    module _ (q : Option Walked) (y : wide.Tests (viewed stored starts 0) (One (Sane deepest)) 0 (length stored) q) where
      z : wide.Tests stored (One (Sane deepest)) 0 (length stored) q
      z = subst (λ (v : List ℕ). wide.Tests v (One (Sane deepest)) 0 (length stored) q) (view_file stored starts) y

      pub long_bad : q ≡ None → Told stored None
      long_bad e =
          let f : wide.Tests stored (One (Sane deepest)) 0 (length stored) None = rw e at z in
          untold (λ t k. f (more t none) (one (kept_sane k)) (at_as (sym (wide.one_form t)) (whole_at_lem (form t) k.bytes)) (omega (arith, ap length (wide.one_form t), ap length k.bytes)))

      module _ (w : Walked) (g : q ≡ Some w) where
        found : wide.Lone stored (Sane deepest) 0 (length stored) w.to w.rows w.bytes
        found = let f : wide.Tests stored (One (Sane deepest)) 0 (length stored) (Some w) = rw g at z in wide.lone stored f

        pub long_trailing : w.to < length stored → Told stored None
        long_trailing l =
            let r = found in
            untold
            (λ t k.
            let h = whole_at_lem (form t) k.bytes in
            let s = form_alike t r.tree (form_apart {r = h.behind} {w = r.here.behind} (kept_shaped k) r.good.shaped (sym h.is ∙ r.here.is)).alike in
            omega (arith, ap length s, r.end, ap length k.bytes))

        pub long_good : length stored ≤ w.to → Told stored (Some (record { rows = record { 0 = w.rows }; bytes = w.bytes }))
        long_good l = let r = found in one_told r.tree w.rows w.bytes r.good r.here (omega (arith, r.end, r.below)) r.rows r.text few

pub ruleset telling = (told_over, short_lies, short_bad, short_heads, short_few, short_trailing, short_good, long_content, long_bad, long_trailing, long_good, rules)

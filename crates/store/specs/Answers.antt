-- WHAT `store` PROMISES, from what `sound`, `needed` and `field` do. Assumes nothing.
use Rattle.std.specs.Prelude.{◌≡◌, List, ◌++◌, Bool, true, false, ℕ, ◌+◌, ◌*◌, ◌≤◌, ◌<◌}
use Rattle.std.proofs.Common.{sym, ◌∙◌, rules as needs-of}
use Rattle.std.proofs.Math.Path.{ap, subst}
use native.Mathlib.Omega.{arith}
use Rattle.std.proofs.Math.ListN.{length, drop}
use Rattle.std.proofs.lemmas.List.Edits.{sets-eq}
use Rattle.notation.specs.Class.{pick}
use Rattle.language.specs.Tree.{Tree, width, text_of}
use Rattle.language.specs.Answered.{TEXT, BADROW}
use Rattle.language.specs.Lent.{lent, bytes_in}
use Rattle.language.specs.Sound.{Holds, Sound}
use Rattle.language.specs.Written.{Sounded, is_sound, unsound}
use Rattle.shaped.specs.Holds.{profile_shaped, holds_at}
use Rattle.stored.specs.Form.{head, form}
use Rattle.stored.specs.Stored.{Stores, stores, bad_row, needs}
use Rattle.stored.proofs.AnsweringLaws.{holds_most, holds_short}
use Rattle.fields.specs.Puts.{Puts}
use Rattle.fields.specs.Rows.{kept_value}
use Rattle.fields.specs.Fields.{Field}
use Rattle.fields.specs.Ends.{end_below, holds_end}
use Rattle.stored.specs.Parts.{widest_is}
use Rattle.fields.specs.Measured.{Measured}

module _ {table : List ℕ} {rows : ℕ} {text : List ℕ} where
  -- what `sound` answers
  told_sound : {n : ℕ} → Sounded table rows text n → n ≡ 0 → Sound table rows text
  told_sound (is_sound s) e = s
  told_sound (unsound u) e = absurd (omega arith)

  told_unsound : {n : ℕ} → Sounded table rows text n → n ≡ BADROW → Sound table rows text → ⊥
  told_unsound (is_sound s) e = absurd (omega arith)
  told_unsound (unsound u) e = u

  yes_sound : {b : Bool} → Sounded table rows text (pick b 0 BADROW) → b ≡ true → Sound table rows text
  yes_sound {b} h e = told_sound h (ap (λ c. pick c 0 BADROW) e)

  not_sound : {b : Bool} → Sounded table rows text (pick b 0 BADROW) → b ≡ false → Sound table rows text → ⊥
  not_sound {b} h e = told_unsound h (ap (λ c. pick c 0 BADROW) e)

  -- the field of the root
  root : (s : Sound table rows text) {b : ℕ} → length (form s.tree) ≤ b → Field table text b 0 0
  root s m =
      let h = s.holds in
      record {
        tree = s.tree;
        kept = kept_value (profile_shaped h.profile);
        here = record { parent = 0; start = 0; rows = holds_at h; fits = omega (arith, h.rows_fit, h.count) };
        fits = omega arith;
      }

-- ---- the bytes needed: of a tree that some table holds with some text

pub record Needs (table : List ℕ) (rows : ℕ) : Type 0 where
  pub text : List ℕ
  pub tree : Tree
  pub holds : Holds table rows text tree

module _ (table : List ℕ) {rows : ℕ} (h : Needs table rows) where
  pub needs_rows : width * rows ≤ length table
  needs_rows = omega (arith, h.holds.rows_fit)

  pub needs_few : rows ≤ lent
  needs_few = omega (arith, h.holds.rows_fit)

  pub needs_field : Measured table 0
  needs_field =
      let k = h.holds in
      record {
        text = h.text;
        tree = h.tree;
        kept = kept_value (profile_shaped k.profile);
        here = record { parent = 0; start = 0; rows = holds_at k; fits = omega (arith, k.rows_fit, k.count) };
        most = holds_most h.tree k;
      }

  pub needs_all : {n : ℕ} → ((i : Measured table 0) → n ≡ length (form i.tree)) → n ≡ length (form h.tree)
  unfolding needs_field
  needs_all f = f needs_field

  module _ {m : ℕ} (g : m ≡ end_below table rows) where
    pub needs_text : m ≤ lent
    needs_text = let f = holds_end h.tree h.holds in omega (arith, h.holds.text_fits)

    pub needs_short : {n : ℕ} → n ≡ 3 * rows + m → n ≤ 65538 → n ≡ length (form h.tree)
    needs_short {n} k l =
        let f = holds_end h.tree h.holds in
        let e : n ≡ head * rows + length (text_of h.tree) = omega arith in
        e ∙ sym (holds_short h.tree h.holds (omega (arith, widest_is)))

pub ruleset needing = (needs_rows, needs_few, needs_field, needs_all, needs_text, needs_short, needs-of)

-- ---- what `store` shows, once the test of soundness has answered b, and n bytes are needed

module _ (table : List ℕ) (rows : ℕ) (text : List ℕ) (b : Bool) (h : Sounded table rows text (pick b 0 BADROW)) where
  pub stored_bad : (out : List ℕ) → b ≡ false → Stores table rows text out BADROW 0 out
  stored_bad out e = bad_row (not_sound h e)

  module _ (e : b ≡ true) where
    pub stored_needs : Needs table rows
    stored_needs = let s = yes_sound h e in record { text = text; tree = s.tree; holds = s.holds }

    module _ (n : ℕ) (f : (i : Needs table rows) → n ≡ length (form i.tree)) (out : List ℕ) where
      tree_is : Tree
      tree_is = (yes_sound h e).tree

      count_is : n ≡ length (form tree_is)
      unfolding tree_is stored_needs
      count_is = f stored_needs

      module _ (r : ℕ) (g : r ≡ bytes_in out) where
        pub stored_short : r < n → Stores table rows text out TEXT n out
        unfolding tree_is
        stored_short i =
            let c = count_is in
            subst (λ q. Stores table rows text out TEXT q out) (sym c) (needs tree_is (yes_sound h e).holds (omega arith))

        pub stored_root : n ≤ r → Field table text (length out) 0 0
        unfolding tree_is
        stored_root i = let c = count_is in root (yes_sound h e) (omega arith)

        pub stored_done : n ≤ r → (y : ℕ) (out' : List ℕ) → ((i : Field table text (length out) 0 0) → Puts (form i.tree) 0 y out out') → Stores table rows text out 0 n out'
        unfolding tree_is stored_root root
        stored_done i y out' p =
            let c = count_is in
            let w = form tree_is in
            let q : Puts w 0 y out out' = p (stored_root i) in
            let z : out' ≡ w ++ drop (length w) out = q.holds ∙ (sets-eq w out 0 (omega arith) ∙ ap (λ j. w ++ drop j out) (let o : 0 + length w ≡ length w = omega arith in o)) in
            subst (λ j. Stores table rows text out 0 j out') (sym c) (subst (Stores table rows text out 0 (length w)) (sym z) (stores tree_is (yes_sound h e).holds (omega arith)))

pub ruleset storing = (stored_bad, stored_needs, stored_short, stored_root, stored_done, needs-of)

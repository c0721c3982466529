-- FIELDS IN STORED BYTES BY THEIR HEADS: where a field ends (`end_at`), whether a whole one stands before a place (`Whole`), and that it is then tag, length and content (`field_at`). Assumes nothing.
use Rattle.std.specs.Prelude.{◌≡◌, refl, List, [], ◌∷◌, ◌++◌, take, drop}
use Rattle.std.proofs.Common.{sym, ap, subst, ◌∙◌, append_assoc, take-append-drop, length-append, length-drop, drop-drop, get_or-drop, length-take-le}
use Prim.Native.Nat.{ℕ, suc, ◌+◌, ◌*◌, ◌/◌, ◌%◌, ◌≤◌, ◌<◌}
use native.Mathlib.Omega.{arith}
use Rattle.std.proofs.Math.ListN.{length, get_or, get_or-append}
use Rattle.std.proofs.Math.Seq.{slice, length-slice, take-append_seam, drop-append_seam, drop-cons}
use Rattle.std.proofs.lemmas.List.{drop-append-le}
use Rattle.language.specs.Tree.{Tree}
use Rattle.stored.specs.Form.{tagged, head, tag}
use Rattle.stored.specs.Old.{content, form}
use Rattle.stored.specs.Bytes.{At}
use Rattle.uncut.specs.Short.{longest}

-- the place behind the field whose head stands at a: "two bytes length, high byte first; then content"
unfoldable pub end_at : List ℕ → ℕ → ℕ
end_at stored a = a + head + 256 * get_or stored (a + 1) 0 + get_or stored (a + 2) 0

-- what `behind` tells
pub record Behind (stored : List ℕ) (a e : ℕ) : Type 0 where
  pub is : e ≡ end_at stored a
  pub low : get_or stored (a + 2) 0 < 256

-- a place in the stored bytes, and one where they are to end, of which there are few
pub record Lies (stored : List ℕ) (a stop : ℕ) : Type 0 where
  pub order : a ≤ stop
  pub inside : stop ≤ length stored
  pub few : stop ≤ longest

-- a whole field stands at a place, before `stop`
pub record Whole (stored : List ℕ) (a stop : ℕ) : Type 0 where
  pub begins : a + head ≤ stop
  pub ends : end_at stored a ≤ stop

-- .. and ends at e
pub record Field (stored : List ℕ) (a e : ℕ) : Type 0 where
  pub is : e ≡ end_at stored a
  pub low : get_or stored (a + 2) 0 < 256
  pub begins : a + head ≤ e
  pub inside : e ≤ length stored
  pub few : e ≤ longest

-- the content of the field at a place
abbrev pub content_at : List ℕ → ℕ → List ℕ
content_at stored a = slice (a + head) (end_at stored a) stored

pub end_after : (stored : List ℕ) (a : ℕ) → a + head ≤ end_at stored a
unfolding end_at
end_after stored a = omega arith

module _ {stored : List ℕ} where
  -- ---- bytes at a place

  pub at_byte : {a : ℕ} (s : List ℕ) (i : ℕ) → At stored a s → i < length s → get_or stored (a + i) 0 ≡ get_or s i 0
  at_byte {a} s i x l = sym (get_or-drop a stored i 0) ∙ (ap (λ (l : List ℕ). get_or l i 0) x.is ∙ get_or-append s x.behind 0 i l)

  pub at_inside : {a : ℕ} (s : List ℕ) → At stored a s → a ≤ length stored → a + length s ≤ length stored
  at_inside {a} s x l = omega (arith, length-drop a stored, ap length x.is, length-append s x.behind)

  pub at_join : {a b : ℕ} (s u : List ℕ) → At stored a s → At stored b u → b ≡ a + length s → At stored a (s ++ u)
  at_join {a} {b} s u x y e =
      let z : x.behind ≡ u ++ y.behind =
      sym (drop-append_seam s x.behind) ∙ (ap (drop (length s)) (sym x.is) ∙ (drop-drop (length s) a stored ∙ (ap (λ (i : ℕ). drop i stored) (sym e) ∙ y.is))) in
      record { behind = y.behind; is = x.is ∙ (ap (λ (l : List ℕ). s ++ l) z ∙ sym (append_assoc s u y.behind)) }

  pub at_as : {a : ℕ} {s u : List ℕ} → s ≡ u → At stored a s → At stored a u
  at_as {a} e x = subst (At stored a) e x

  pub at_place : {a b : ℕ} {s : List ℕ} → a ≡ b → At stored a s → At stored b s
  at_place {s = s} e x = subst (λ (i : ℕ). At stored i s) e x

  -- a part, and bytes that are one
  pub slice_at : (a e : ℕ) → a ≤ e → e ≤ length stored → At stored a (slice a e stored)
  slice_at a e l m =
      let z : a ≤ length (take e stored) = omega (arith, length-take-le e stored m) in
      record {
        behind = drop e stored;
        is = ap (drop a) (sym (take-append-drop e stored)) ∙ drop-append-le a (take e stored) (drop e stored) z;
      }

  pub at_slice : {a e : ℕ} (s : List ℕ) → At stored a s → e ≡ a + length s → e ≤ length stored → slice a e stored ≡ s
  at_slice {a} {e} s x h l =
      let y = slice_at a e (omega arith) l in
      let n : length (slice a e stored) ≡ length s = omega (arith, length-slice a e stored l) in
      let z : slice a e stored ++ y.behind ≡ s ++ x.behind = sym y.is ∙ x.is in
      sym (take-append_seam (slice a e stored) y.behind) ∙ (ap (λ (i : ℕ). take i (slice a e stored ++ y.behind)) n ∙ (ap (take (length s)) z ∙ take-append_seam s x.behind))

  -- ---- the field of a tree

  pub field_tag : {a : ℕ} (t : Tree) → At stored a (form t) → get_or stored a 0 ≡ tag t
  field_tag {a} t x = ap (λ (i : ℕ). get_or stored i 0) (let z : a ≡ a + 0 = omega arith in z) ∙ at_byte (form t) 0 x (omega arith)

  pub field_end : {a : ℕ} (t : Tree) → At stored a (form t) → end_at stored a ≡ a + length (form t)
  unfolding end_at
  field_end {a} t x =
      let h = at_byte (form t) 1 x (omega arith) in
      let l = at_byte (form t) 2 x (omega arith) in
      omega arith

  -- its content
  pub field_content : {a : ℕ} (t : Tree) → At stored a (form t) → At stored (a + head) (content t)
  field_content {a} t x = Rattle.stored.specs.Bytes.at_right stored {n = head} (tag t ∷ length (content t) / 256 ∷ length (content t) % 256 ∷ []) (content t) refl x

  pub field_slice : {a : ℕ} (t : Tree) → At stored a (form t) → end_at stored a ≤ length stored → content_at stored a ≡ content t
  field_slice {a} t x l = at_slice (content t) (field_content t x) (omega (arith, field_end t x)) l

  -- A WHOLE FIELD is its tag, its length and its content
  pub field_at : {a e : ℕ} → Field stored a e → At stored a (tagged (get_or stored a 0) (slice (a + head) e stored))
  unfolding end_at
  field_at {a} {e} f =
      let c = slice (a + head) e stored in
      let n : length c ≡ 256 * get_or stored (a + 1) 0 + get_or stored (a + 2) 0 = omega (arith, length-slice (a + head) e stored f.inside, f.is) in
      let h : length c / 256 ≡ get_or stored (a + 1) 0 = omega (arith, f.low) in
      let l : length c % 256 ≡ get_or stored (a + 2) 0 = omega (arith, f.low) in
      let y = slice_at (a + head) e f.begins f.inside in
      let p : suc a ≡ a + 1 = omega arith in
      let q : suc (a + 1) ≡ a + 2 = omega arith in
      let r : suc (a + 2) ≡ a + head = omega arith in
      let i = drop-cons stored a 0 (omega (arith, f.begins, f.inside)) in
      let j = drop-cons stored (a + 1) 0 (omega (arith, f.begins, f.inside)) in
      let k = drop-cons stored (a + 2) 0 (omega (arith, f.begins, f.inside)) in
      let z = y.is in
      record { behind = y.behind; is = cc }

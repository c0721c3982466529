-- What lines and leaves note: block strings, block bytes and joined strings have no keys; a line has those of its value. Assumes nothing.
use mathlib.Core.Path.{◌≡◌, refl, subst}
use mathlib.Core.List.{List, [], ◌∷◌}
use mathlib.Core.Bool.{Bool, true, false}
use Prim.Native.Nat.{ℕ, ◌≤◌}
use native.Mathlib.Omega.{arith}
use lib.ListN.{drop}
use borrow.Author.Rules.{rules}
use Rattle.language.specs.Tree.{Tree}
use Rattle.exact.specs.Out.{Out, Reader, Tamed, Tame, ok, soft, bad}
use Rattle.exact.specs.Comb.{seq_r, map_r}
use Rattle.exact.specs.Ll.{word_r, seq_ll, byte₁}
use Rattle.exact.specs.Block.{indented_r}
use Rattle.exact.specs.Class.{is, only}
use Rattle.exact.specs.Lang.{ret_r, byte_r}
use Rattle.exact.specs.Place.{peek, alt_is, alt_not}
use Rattle.characters.specs.Comments.{optional_comment_ll}
use Rattle.notes.specs.Flat.{flat, flats_one}
use Rattle.notes.specs.Bare.{Always, every_ok, every_bind, every_alt, Bare}
use Rattle.notes.specs.Notes.{Gives, gives_ok, gives_soft, gives_none, gives_forward, gives_bind, gives_behind, kept_none, kept_wide, Notes, one}
use Rattle.language.specs.BlockText.{Line}
use Rattle.blocktext.specs.Led.{led_r}
use Rattle.blocktext.specs.Plus.{plus_r}
use Rattle.blocktext.specs.Further.{further_r}
use Rattle.blocktext.specs.TextLines.{body_r}
use Rattle.blocktext.specs.HexLines.{hex_rest_r, hex_line_r, hex_lines_r}
use Rattle.blocktext.specs.BlockStrings.{below_r, leader_text_r, open_string_tree, open_string_rest_r, open_string_r, open_string_exact, property_string_tree, property_string_r, property_string_exact}
use Rattle.blocktext.specs.BlockBytes.{bytes_tree, leader_comment_r, open_bytes_rest_r, open_bytes_r, open_bytes_exact, property_bytes_rest_r, property_bytes_r, property_bytes_exact}
use Rattle.blocktext.specs.Joined.{quotes, joined_tree, joined_line_r, joined_more_r, joined_r}
use Rattle.inline.specs.Values.{value_r}
use Rattle.blocks.specs.Or.{merge}
use Rattle.blocks.specs.ValueLine.{line_r}
use Rattle.blocks.specs.Property.{on_r}
use Rattle.blocks.specs.Openers.{opener_r, nested_line_r, nested_line_exact}
use Rattle.judge.specs.Contract.{feed_r, ends_r, end_r}
use Rattle.judge.proofs.Lining.{end_is}

-- ---- answers that give a value

-- of two readers of which the other is refused
pub gives_merge : {X : Type 0} (o : Out X) (p : ℕ) {v : X} {a : ℕ} → Gives (merge o (bad p)) v a → Gives o v a
gives_merge (ok v a s) p gives_ok = gives_ok
gives_merge (soft q v a s) p gives_soft = gives_soft
gives_merge (bad q) p x = absurd (gives_none x)

-- ---- leaves

leaf_notes : {d : ℕ} (q : Reader Tree) → Tame d q → ((at : ℕ) (s : List ℕ) → Always Bare (q at s))
    → (doc : List ℕ) (at row p : ℕ) (S : List ℕ) → Notes one doc at row p (q at (drop at doc)) S S
leaf_notes q t h doc at row p S =
    record {
      kept = λ v a g.
          rw (flats_one row p v, ((h at (drop at doc)).holds v a g).none row p)
          (kept_none doc at a S (gives_forward (t.tame at (drop at doc)) g));
    }

map_bare : {X : Type 0} (g : X → Tree) (r : Reader X) → ((x : X) → Bare (g x)) → (at : ℕ) (s : List ℕ) → Always Bare (map_r g r at s)
map_bare g r h at s = every_bind (r at s) (λ x. ret_r (g x)) (λ x a t. every_ok (h x))

led_bare : {X : Type 0} (r : Reader X) (k : ℕ → X → Reader Tree) → ((a : ℕ) (x : X) (at : ℕ) (s : List ℕ) → Always Bare (k a x at s)) → (at : ℕ) (s : List ℕ) → Always Bare (led_r r k at s)
led_bare r k h at s = every_bind (r at s) (k at) (λ x a t. h at x a t)

below_bare : (tree : ℕ → List Line → Tree) (n : ℕ) → ((e : ℕ) (ls : List Line) → Bare (tree e ls)) → (at : ℕ) (s : List ℕ) → Always Bare (below_r tree n at s)
below_bare tree n h = led_bare (byte_r (is (only 10))) (λ e _. map_r (tree e) (body_r n)) (λ e _ at s. map_bare (tree e) (body_r n) (h e) at s)

open_string_bare : (n at : ℕ) (s : List ℕ) → Always Bare (open_string_r n at s)
unfolding open_string_r flat
open_string_bare n =
    led_bare (byte_r (is (only 96))) (λ a _. open_string_rest_r n a)
    (λ a _ at s. every_bind (leader_text_r at s) (λ t. below_r (open_string_tree a t) n) (λ t b u. below_bare (open_string_tree a t) n (λ e ls. record { none = λ r p. refl }) b u))

property_string_bare : (n at : ℕ) (s : List ℕ) → Always Bare (property_string_r n at s)
unfolding property_string_r flat
property_string_bare n =
    led_bare (byte_r (is (only 96))) (λ a _. below_r (property_string_tree a) n) (λ a _ at s. below_bare (property_string_tree a) n (λ e ls. record { none = λ r p. refl }) at s)

open_bytes_bare : (n at : ℕ) (s : List ℕ) → Always Bare (open_bytes_r n at s)
unfolding open_bytes_r flat
open_bytes_bare n =
    led_bare (word_r (62 ∷ 32 ∷ [])) (λ a _. open_bytes_rest_r n a)
    (λ a _ at s. every_bind (hex_rest_r at s) (λ h. map_r (λ hs. bytes_tree a (h ∷ hs)) (hex_lines_r n)) (λ h b u. map_bare (λ hs. bytes_tree a (h ∷ hs)) (hex_lines_r n) (λ x. record { none = λ r p. refl }) b u))

property_bytes_bare : (n at : ℕ) (s : List ℕ) → Always Bare (property_bytes_r n at s)
unfolding property_bytes_r flat
property_bytes_bare n =
    led_bare (byte_r (is (only 62))) (λ a _. property_bytes_rest_r n a)
    (λ a _ at s. every_bind (leader_comment_r at s) (λ _. seq_r (byte_r (is (only 10))) λ _. map_r (bytes_tree a) (plus_r (hex_line_r n) (hex_lines_r n)))
    (λ c b u. every_bind (byte_r (is (only 10)) b u) (λ _. map_r (bytes_tree a) (plus_r (hex_line_r n) (hex_lines_r n)))
    (λ d b u. map_bare (bytes_tree a) (plus_r (hex_line_r n) (hex_lines_r n)) (λ x. record { none = λ r p. refl }) b u)))

joined_bare : (n at : ℕ) (s : List ℕ) → Always Bare (joined_r n at s)
unfolding joined_r flat
joined_bare n =
    led_bare joined_line_r (joined_more_r n)
    (λ a q at s. map_bare (joined_tree a q) (plus_r (indented_r n joined_line_r) (further_r quotes n joined_line_r)) (λ x. record { none = λ r p. refl }) at s)

nested_bare : (n at : ℕ) (s : List ℕ) → Always Bare (nested_line_r n at s)
unfolding nested_line_r
nested_bare n at s = every_alt _ (open_string_r n) (joined_r n) at s (open_string_bare n) (joined_bare n)

module _ (doc : List ℕ) (at row p n : ℕ) (S : List ℕ) where
  open_string_notes : Notes one doc at row p (open_string_r n at (drop at doc)) S S
  open_string_notes = leaf_notes (open_string_r n) (open_string_exact n).moves (open_string_bare n) doc at row p S

  property_string_notes : Notes one doc at row p (property_string_r n at (drop at doc)) S S
  property_string_notes = leaf_notes (property_string_r n) (property_string_exact n).moves (property_string_bare n) doc at row p S

  open_bytes_notes : Notes one doc at row p (open_bytes_r n at (drop at doc)) S S
  open_bytes_notes = leaf_notes (open_bytes_r n) (open_bytes_exact n).moves (open_bytes_bare n) doc at row p S

  property_bytes_notes : Notes one doc at row p (property_bytes_r n at (drop at doc)) S S
  property_bytes_notes = leaf_notes (property_bytes_r n) (property_bytes_exact n).moves (property_bytes_bare n) doc at row p S

  pub nested_line_notes : Notes one doc at row p (nested_line_r n at (drop at doc)) S S
  nested_line_notes = leaf_notes (nested_line_r n) (nested_line_exact n).moves (nested_bare n) doc at row p S

-- ---- a line

-- a line's end goes forward
ends_tame : (root : Bool) (m : ℕ) (t : List ℕ) → Tamed 1 m t (ends_r root m t)
unfolding ends_r feed_r
ends_tame true m t = (byte₁ 10).exact.moves.tame m t
ends_tame false m t = (seq_ll refl optional_comment_ll (λ _. byte₁ 10)).exact.moves.tame m t

-- behind a value its line's end
end_gives : (root : Bool) (v : Tree) (m : ℕ) (t : List ℕ) {w : Tree} {a : ℕ} → Gives (end_r root v m t) w a → (w ≡ v) × (m ≤ a)
end_gives root v m t {w} {a} g = gives_behind (ends_r root m t) (ends_tame root m t) v (subst (λ (o : Out Tree). Gives o w a) (end_is root v m t) g)

pub line_notes : (root : Bool) (k : ℕ) (doc : List ℕ) (at row p : ℕ) (S S' : List ℕ) → Notes one doc at row p (value_r true k at (drop at doc)) S S'
    → Notes one doc at row p (line_r (end_r root) k at (drop at doc)) S S'
unfolding line_r
line_notes root k doc at row p S S' x =
    record {
      kept = λ w a g.
          let b = gives_bind (value_r true k at (drop at doc)) (end_r root) g in
          let e = end_gives root b.value b.middle b.left b.second in
          let z : at ≤ at = omega arith in
          rw e.0 (kept_wide z e.1 (x.kept b.value b.middle b.first));
    }

-- ---- one reader in place of another, by the byte b at the place

module _ (doc : List ℕ) (at row p b : ℕ) (h : b ≡ peek doc at) (S : List ℕ) where
  pub on_string_notes : (k n : ℕ) → b ≡ 96 → Notes one doc at row p (on_r k n at (drop at doc)) S S
  unfolding on_r
  on_string_notes k n e = rw (alt_is doc at 96 b (omega arith) h (property_string_r n) _ e) (property_string_notes doc at row p n S)

  pub on_bytes_notes : (k n : ℕ) → b ≡ 62 → Notes one doc at row p (on_r k n at (drop at doc)) S S
  unfolding on_r
  on_bytes_notes k n e =
      let f : b ≡ 96 → ⊥ = λ x. omega arith in
      rw (alt_not doc at 96 b (omega arith) h (property_string_r n) _ f, alt_is doc at 62 b (omega arith) h (property_bytes_r n) _ e) (property_bytes_notes doc at row p n S)

  pub opens_string_notes : (root : Bool) (k n : ℕ) → b ≡ 96 → Notes one doc at row p (opener_r (end_r root) k n at (drop at doc)) S S
  unfolding opener_r
  opens_string_notes root k n e = rw (alt_is doc at 96 b (omega arith) h (open_string_r n) _ e) (open_string_notes doc at row p n S)

  pub opens_bytes_notes : (root : Bool) (k n : ℕ) → b ≡ 62 → Notes one doc at row p (opener_r (end_r root) k n at (drop at doc)) S S
  unfolding opener_r
  opens_bytes_notes root k n e =
      let f : b ≡ 96 → ⊥ = λ x. omega arith in
      rw (alt_not doc at 96 b (omega arith) h (open_string_r n) _ f, alt_is doc at 62 b (omega arith) h (open_bytes_r n) _ e) (open_bytes_notes doc at row p n S)

  module _ (k n : ℕ) (S' : List ℕ) (e : b ≡ 96 → ⊥) (f : b ≡ 62 → ⊥) where
    pub on_value_notes : Notes one doc at row p (line_r (end_r false) k at (drop at doc)) S S' → Notes one doc at row p (on_r k n at (drop at doc)) S S'
    unfolding on_r
    on_value_notes x = rw (alt_not doc at 96 b (omega arith) h (property_string_r n) _ e, alt_not doc at 62 b (omega arith) h (property_bytes_r n) _ f) x

    pub opens_value_notes : (root : Bool) → Notes one doc at row p (line_r (end_r root) k at (drop at doc)) S S' → Notes one doc at row p (opener_r (end_r root) k n at (drop at doc)) S S'
    unfolding opener_r
    opens_value_notes root x = rw (alt_not doc at 96 b (omega arith) h (open_string_r n) _ e, alt_not doc at 62 b (omega arith) h (open_bytes_r n) _ f) x

pub ruleset line_noting = (line_notes, rules)

pub ruleset choice_noting = (on_string_notes, on_bytes_notes, on_value_notes, opens_string_notes, opens_bytes_notes, opens_value_notes, rules)

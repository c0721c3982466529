-- The loop over the pieces of a string: laws for each turn and each return.
use mathlib.Core.Path.{◌≡◌, refl, sym, ap, ◌∙◌}
use mathlib.Core.List.{List, [], ◌++◌}
use Prim.Native.Nat.{ℕ, ◌+◌, ◌-◌, ◌≤◌, ◌<◌}
use native.Mathlib.Nat.{add-zero}
use native.Mathlib.Omega.{arith}
use lib.ListN.{length, drop, length-append}
use lib.Seq.{sets, slice, length-slice}
use borrow.Author.Rules.{rules}
use Rattle.exact.specs.Out.{ok, bind, fmap, Reader}
use Rattle.exact.specs.Place.{peek_in}
use Rattle.language.specs.Tree.{Decoded, unescaped, ◌then◌}
use Rattle.rooms.specs.Told.{ESCAPE, spot, tally, told, spot_on, tally_on}
use Rattle.rooms.specs.declared.Cursor.{Cursor}
use Rattle.rooms.specs.Contract.{Ans}
use Rattle.std.specs.declared.result.Result.TheVariants.{Err, Ok}
use Rattle.rooms.specs.Contract.{Takes, Ready}
use Rattle.rooms.specs.Laws.{take_next, take_byte, take_other}
use Rattle.characters.specs.Plains.{Quote, plain_of}
use Rattle.strings.specs.Rest.{rest_r, rest_at, rest_close}
use Rattle.strings.specs.Quoted.{between_r}
use Rattle.strings.specs.Inside.{escapes_r, text_r, left_r, special_r, CleanTo, Copied, Special, Within}
use Rattle.strings.specs.Contract.{Texts}
use Rattle.strings.specs.Joining.{itself, then_nil, then_none, Fronted, texts}
use Rattle.strings.proofs.CleanLaws.{sides}
use Rattle.strings.proofs.TextLaws.{room_join, text_refused, text_taken, text_refusal, front_not, front_ready, front_read}

-- nothing is read yet, and a text more, of v
pub within_none : {X : Type 0} (reads : X → Decoded) (front : X → X → X) (none : X) → reads none ≡ unescaped [] → (r : Reader X) (doc : List ℕ) (s : Cursor) (T : List ℕ)
    → r s.at (drop s.at doc) ≡ fmap (front none) (r s.at (drop s.at doc)) → Ready doc s → Within reads front r doc s s T T
within_none reads front none e r doc s T h ready =
    record { done = none; is = h; start = ready; ready = ready; row = refl; end = rw e (sym (add-zero s.text)); few = rw e (omega arith); scant = rw e (omega arith); room = rw e refl }

module _ {X : Type 0} (reads : X → Decoded) (front : X → X → X) (j : Fronted reads front) (r : Reader X) (doc : List ℕ) (s n : Cursor) (T₀ T : List ℕ) (w : Within reads front r doc s n T₀ T) where
  -- where the text so far ends
  pub within_spot : spot n.text ≡ spot s.text + length (reads w.done).bytes
  within_spot = ap spot w.end ∙ spot_on s.text (length (reads w.done).bytes) (reads w.done).escapes (omega (arith, w.start.small, w.start.few_text, w.few, w.ready.inside))

  pub extend : (m : Cursor) (v : X) (T' : List ℕ) → r n.at (drop n.at doc) ≡ fmap (front v) (r m.at (drop m.at doc)) → m.at ≤ length doc → m.row ≡ n.row
      → m.text ≡ n.text + told (reads v) → n.at + length (reads v).bytes ≤ m.at → n.at + (reads v).escapes ≤ m.at → T' ≡ sets T (spot n.text) (reads v).bytes → Within reads front r doc s m T₀ T'
  extend m v T' h i y x f g t =
      let d = w.done in
      let a : length ((reads d).bytes ++ (reads v).bytes) ≡ length (reads d).bytes + length (reads v).bytes = length-append (reads d).bytes (reads v).bytes in
      let b : spot n.text + length (reads v).bytes < ESCAPE = omega (arith, w.ready.small, w.ready.few_text) in
      let p = ap spot x ∙ spot_on n.text (length (reads v).bytes) (reads v).escapes b in
      let q = ap tally x ∙ tally_on n.text (length (reads v).bytes) (reads v).escapes b in
      record {
        done = front d v;
        is = w.is ∙ (ap (fmap (front d)) h ∙ j.join d v (r m.at (drop m.at doc)));
        start = w.start;
        ready = record { small = w.ready.small; inside = i; few_rows = omega (arith, w.ready.few_rows); few_text = omega (arith, w.ready.few_text); few_escapes = omega (arith, w.ready.few_escapes) };
        row = y ∙ w.row;
        end = rw (j.reading d v) (omega (arith, w.end));
        few = rw (j.reading d v) (omega (arith, w.few));
        scant = rw (j.reading d v) (omega (arith, w.scant));
        room = rw (j.reading d v) (room_join T₀ T T' (spot s.text) (spot n.text) (reads d).bytes (reads v).bytes w.room within_spot t);
      }

-- what is read of a string
abbrev pub Inside : ℕ → List ℕ → Cursor → Cursor → List ℕ → List ℕ → Type 0
Inside q = Within itself ◌then◌ (left_r q)

module _ (q : ℕ) (doc : List ℕ) (quote : Quote q) where
  pub within_first : (s : Cursor) (T : List ℕ) → Ready doc s → Inside q doc s s T T
  within_first s T ready = within_none itself ◌then◌ (unescaped []) refl (left_r q) doc s T (sym (then_none (left_r q s.at (drop s.at doc)))) ready

  -- the bytes that stand for themselves
  module _ (s n e : Cursor) (T₀ T T₁ : List ℕ) (w : Inside q doc s n T₀ T) (k : Copied (CleanTo q) doc n e T T₁) where
    within_clean : Inside q doc s e T₀ T₁
    within_clean =
        let l : length (slice n.at e.at doc) ≡ e.at - n.at = length-slice n.at e.at doc k.run.inside in
        extend itself ◌then◌ texts (left_r q) doc s n T₀ T w e (unescaped (slice n.at e.at doc)) T₁ k.run.reads k.run.inside k.row (omega (arith, k.end)) (omega (arith, k.run.from)) (omega (arith, k.run.from)) k.room

    pub ready_behind : Ready doc e
    ready_behind = within_clean.ready

    -- the quote, or another byte
    module _ (t : Ans) (h : Takes doc e q t) where
      abbrev Left : Ans → List ℕ → Type 0
      Left a T' = Texts doc s (left_r q s.at (drop s.at doc)) a T₀ T'

      pub string_read : (m : Cursor) → t ≡ Ok m → Left (Ok m) T₁
      unfolding Texts
      string_read m x =
          let here = within_clean in
          let b = take_byte doc e q t h m x in
          let i = peek_in doc e.at q b (sides quote).small in
          rw (take_next doc e q t h m x)
          (record {
            value = here.done;
            is =
                here.is
                ∙ (ap (fmap (here.done then◌)) (rest_close q (escapes_r q) (plain_of q) (sides quote).tame (sides quote).shut (sides quote).small doc e.at b)
                ∙ ap (λ v. ok v (e.at + 1) (drop (e.at + 1) doc)) (then_nil here.done));
            spelt = record { ahead = omega (arith, here.few); inside = omega arith; row = here.row; end = here.end; few = omega (arith, here.few); scant = omega (arith, here.scant); room = here.room };
          })

      module _ (p : ℕ) (x : t ≡ Err p) where
        -- a piece, and the next turn
        module _ (a : Ans) (T₂ : List ℕ) (y : Texts doc e (special_r q e.at (drop e.at doc)) a T₁ T₂) where
          piece_at : left_r q e.at (drop e.at doc) ≡ bind (special_r q e.at (drop e.at doc)) (λ v a t. fmap (v then◌) (left_r q a t))
          piece_at = rest_at q (escapes_r q) (plain_of q) (sides quote).tame doc e.at (take_other doc e q t h p x)

          pub within_turn : (i : Cursor) → a ≡ Ok i → Inside q doc s i T₀ T₂
          within_turn i z =
              let t = text_taken doc e _ T₁ T₂ a i z y in
              extend itself ◌then◌ texts (left_r q) doc s e T₀ T₁ within_clean i t.value T₂ (piece_at ∙ ap (λ o. bind o (λ v a t. fmap (v then◌) (left_r q a t))) t.is) t.spelt.inside t.spelt.row t.spelt.end
              t.spelt.few t.spelt.scant t.spelt.room

          pub string_bad : (r : ℕ) → a ≡ Err r → Left (Err r) T₂
          string_bad r z =
              let here = within_clean in
              let f = text_refusal doc e _ T₁ T₂ a r z y in
              text_refused doc s _ T₀ T₂ r (here.is ∙ ap (fmap (here.done then◌)) (piece_at ∙ ap (λ o. bind o (λ v a t. fmap (v then◌) (left_r q a t))) f))

-- behind the bytes that stand for themselves: neither a plain byte nor the quote, and a piece brings the end nearer
module _ (q : ℕ) (doc : List ℕ) (n e : Cursor) (T T₁ : List ℕ) (k : Copied (CleanTo q) doc n e T T₁) where
  pub special_at : (t : Ans) → Takes doc e q t → (p : ℕ) → t ≡ Err p → Special q doc e.at
  special_at t h p x = record { dark = k.run.dark; other = take_other doc e q t h p x }

  pub turn_less : (a : Ans) (T₂ : List ℕ) (i : Cursor) → Texts doc e (special_r q e.at (drop e.at doc)) a T₁ T₂ → a ≡ Ok i → length doc - i.at < length doc - n.at
  turn_less a T₂ i y z = let t = text_taken doc e _ T₁ T₂ a i z y in omega (arith, t.spelt.ahead, t.spelt.inside, k.run.from)

-- the first quote
module _ (q : ℕ) (doc : List ℕ) (quote : Quote q) (c : Cursor) (t : Ans) (h : Takes doc c q t) where
  abbrev String : Ans → List ℕ → List ℕ → Type 0
  String a T T' = Texts doc c (text_r q c.at (drop c.at doc)) a T T'

  pub quote_not : (T : List ℕ) (p : ℕ) → t ≡ Err p → String (Err p) T T
  unfolding between_r rest_r
  quote_not T p e = front_not doc c q (sides quote).small t h (left_r q) T p e

  module _ (n : Cursor) (e : t ≡ Ok n) where
    pub quote_ready : Ready doc c → Ready doc n
    quote_ready ready = front_ready doc c q (sides quote).small t h n e ready

    pub quote_on : (a : Ans) (T T' : List ℕ) → Texts doc n (left_r q n.at (drop n.at doc)) a T T' → String a T T'
    unfolding between_r rest_r
    quote_on a T T' x = front_read doc c q (sides quote).small t h n e (left_r q) a T T' x

pub ruleset strings = (within_first, special_at, ready_behind, within_turn, turn_less, string_bad, string_read, rules)

pub ruleset openings = (quote_not, quote_ready, quote_on, rules)

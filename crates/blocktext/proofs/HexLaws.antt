-- Block bytes: hex lines, the leader, and the block that they make. Laws as `search` takes them. Assumes nothing.
use mathlib.Core.Path.{◌≡◌, refl, sym, ap, subst, ◌∙◌}
use mathlib.Core.List.{List, [], ◌∷◌}
use Prim.Native.Nat.{ℕ, ◌+◌, ◌-◌, ◌≤◌, ◌<◌}
use native.Mathlib.Nat.{add-zero}
use native.Mathlib.Omega.{arith}
use lib.ListN.{length, drop}
use lib.Seq.{sets}
use lib.Dec.{lit<}
use borrow.Author.Rules.{rules}
use Rattle.exact.specs.Class.{is, only}
use Rattle.exact.specs.Out.{Out, bind, bad, Tame}
use Rattle.exact.specs.Lang.{ret_r, byte_r}
use Rattle.exact.specs.Answers.{map_fmap}
use Rattle.exact.specs.Comb.{seq_r, map_r}
use Rattle.exact.specs.Ll.{word_r}
use Rattle.exact.specs.Block.{lead}
use Rattle.exact.specs.Place.{peek, peek_in, run_end, byte_is, byte_not, alt_is, alt_not}
use Rattle.language.specs.Kind.{BYTES}
use Rattle.language.specs.BlockText.{part, part_text, part_end}
use Rattle.characters.specs.Reads.{Skip}
use Rattle.std.specs.declared.result.Result.TheVariants.{Err, Ok}
use Rattle.characters.specs.Reads.{Skips}
use Rattle.characters.specs.Comments.{comment_r, optional_comment_r}
use Rattle.language.specs.Tree.{unescaped, leaf}
use Rattle.strings.specs.Joining.{none_then}
use Rattle.blocktext.proofs.StringLaws.{fmap_same}
use Rattle.rooms.specs.Told.{ESCAPE, spot, tally, told, spot_on, tally_on}
use Rattle.rooms.specs.declared.Cursor.{Cursor}
use Rattle.rooms.specs.Contract.{Ans}
use Rattle.rooms.specs.Contract.{Far}
use Rattle.rooms.specs.Contract.{Block}
use Rattle.rooms.specs.Contract.{onward, Takes, Ready, Blocks}
use Rattle.rooms.specs.Laws.{take_next, take_byte, take_place, take_other, not_block}
use Rattle.strings.specs.Hexes.{Paired, PairsAt}
use Rattle.blocktext.specs.Deeper.{deeper, deeper_fails}
use Rattle.blocktext.specs.Plus.{plus_r}
use Rattle.blocktext.specs.HexLines.{hex_rest_r, hex_line_r, hex_lines_r, hex_line_exact}
use Rattle.blocktext.specs.BlockBytes.{bytes_tree, open_bytes_rest_r, open_bytes_r, leader_comment_r, property_bytes_rest_r, property_bytes_r}
use Rattle.blocktext.specs.Spaces.{deep, shallow, shallow_far, deep_reads}
use Rattle.blocktext.specs.Contract.{Asked, Spaced}
use Rattle.blocktext.specs.Leaves.{Begun, Rowed, Furthers, stopped, block_of}
use Rattle.blocktext.specs.Parts.{closes, Closed, Unclosed, no_end, no_close, Closing, Parted, PartAt, below_first, further_plus}
use Rattle.blocktext.specs.HexLooks.{comment_reach, bare_closed, bare_open, pairs_bad, pairs_closed, pairs_open}
use Rattle.blocktext.proofs.LineLaws.{spaced_of}
use Rattle.blocktext.proofs.PartLaws.{not_led, closing, Parting, part_on, part_small, part_done, part_stop}

-- ---- the rest of a hex line
module _ (doc : List ℕ) (c : Cursor) (b : ℕ) (k : b ≡ peek doc c.at) where
  pub rest_bare : (g : Skip) (r : Ans) (T : List ℕ) → b ≡ 35 → Skips doc c.at (comment_r c.at (drop c.at doc)) g → r ≡ closes doc c g
      → PartAt doc c (hex_rest_r c.at (drop c.at doc)) r T T
  unfolding Closing PartAt
  rest_bare g r T h s z = go r (closing doc c.at (comment_r c.at (drop c.at doc)) c g r s z)
    where
      go : (r : Ans) → Closing doc c.at (comment_r c.at (drop c.at doc)) c r → PartAt doc c (hex_rest_r c.at (drop c.at doc)) r T T
      go (Ok m) y =
          let apart : c.at ≡ m.at → ⊥ = λ q. let u = ap (peek doc) q in let v = y.feed in omega arith in
          record {
            bytes = unescaped [];
            far = 0;
            reads = bare_closed doc c.at (sym k ∙ h) y.value m.at y.is y.feed;
            near = omega arith;
            ahead = omega (arith, y.from, apart);
            inside = y.inside;
            end = y.text ∙ sym (add-zero c.text);
            few = omega (arith, y.from);
            scant = omega (arith, y.from);
            room = refl;
          }
      go (Err p) y = bare_open doc c.at (sym k ∙ h) p y

  module _ (h : b ≡ 35 → ⊥) (f : Far) (T T' : List ℕ) (x : PairsAt doc c f T T') where
    pub rest_bad : (p : ℕ) → f ≡ Err p → PartAt doc c (hex_rest_r c.at (drop c.at doc)) (Err p) T T'
    unfolding PairsAt PartAt
    rest_bad p z = pairs_bad doc c.at (λ q. h (k ∙ q)) p (rw z at x)

    module _ (n : Cursor) (far : ℕ) (z : f ≡ Ok (n, far)) where
      paired : Paired doc c n far T T'
      unfolding PairsAt
      paired = rw z at x

      pub rest_inside : n.at ≤ length doc
      rest_inside = paired.texted.spelt.inside

      pub rest_pairs : (g : Skip) (r : Ans) → Skips doc n.at (optional_comment_r n.at (drop n.at doc)) g → r ≡ closes doc n g
          → PartAt doc c (hex_rest_r c.at (drop c.at doc)) r T T'
      unfolding Closing PartAt
      rest_pairs g r s q = go r (closing doc n.at (optional_comment_r n.at (drop n.at doc)) n g r s q)
        where
          t : Rattle.strings.specs.Contract.Spelt doc c n (unescaped paired.texted.value) T T'
          t = paired.texted.spelt

          go : (r : Ans) → Closing doc n.at (optional_comment_r n.at (drop n.at doc)) n r → PartAt doc c (hex_rest_r c.at (drop c.at doc)) r T T'
          go (Ok m) y =
              let l = comment_reach doc n.at in
              let u = ap Rattle.exact.specs.Out.reach y.is in
              record {
                bytes = unescaped paired.texted.value;
                far = far;
                reads = pairs_closed doc c.at (λ q. h (k ∙ q)) paired.texted.value n.at far paired.texted.is paired.far_is y.value m.at y.is y.feed;
                near = omega (arith, paired.far_is);
                ahead = omega (arith, y.from, t.ahead);
                inside = y.inside;
                end = y.text ∙ t.end;
                few = omega (arith, y.from, t.few);
                scant = omega (arith, y.from, t.scant);
                room = t.room;
              }
          go (Err p) y = pairs_open doc c.at (λ q. h (k ∙ q)) paired.texted.value n.at far paired.texted.is paired.far_is p y

-- ---- hex lines below the LF at e
module _ (doc : List ℕ) (c : Cursor) (col e x : ℕ) where
  abbrev pub HexLining : Cursor → List ℕ → List ℕ → Type 0
  HexLining n T₀ T = Parting (deeper col) (lead col) (hex_line_r col) doc c e x n T₀ T

  tame : Tame 1 (hex_line_r col)
  tame = (hex_line_exact col).moves

  module _ (n : Cursor) (T₀ T : List ℕ) (i : HexLining n T₀ T) (s : ℕ) (q : s ≡ run_end (only 32) doc (n.at + 1)) where
    sp : Spaced doc (n.at + 1) s
    sp = spaced_of doc (n.at + 1) s (omega (arith, i.inside)) q

    pub hex_from : n.at + 1 ≤ s
    hex_from = sp.from

    pub hex_done : (parent : ℕ) (b : Block) (R R' : List ℕ) → s - (n.at + 1) ≤ col → Rowed c parent BYTES (n.at + 1) n.text s n.at b R R'
        → Furthers doc c parent BYTES (hex_lines_r col (e + 1) (drop (e + 1) doc)) (part_end e) part_text (e + 1) x b R R' T₀ T
    unfolding hex_lines_r
    hex_done parent b R R' l y =
        let k : s ≤ n.at + 1 + col = omega (arith, sp.from) in
        part_done (deeper col) (lead col) (hex_line_r col) doc c e x n T₀ T i parent BYTES s b R R' (shallow doc (n.at + 1) s q col k) (shallow_far doc (n.at + 1) s q col k) y

    module _ (l : col < s - (n.at + 1)) where
      more : n.at + 1 + col < s
      more = omega (arith, sp.from)

      line_is : hex_line_r col (n.at + 1) (drop (n.at + 1) doc) ≡ hex_rest_r s (drop s doc)
      line_is = deep_reads doc (n.at + 1) s q (λ _. hex_rest_r) col more

      pub hex_ready : Ready doc (record { at = s; row = 0; text = n.text })
      hex_ready =
          let a = i.ahead in
          let b = i.spare in
          let d = i.ready.few_rows in
          record { small = i.ready.small; inside = sp.inside; few_rows = omega (arith, sp.from); few_text = omega (arith, sp.from); few_escapes = omega (arith, sp.from, i.thin) }

      module _ (a : Ans) (T' : List ℕ) (p : PartAt doc (record { at = s; row = 0; text = n.text }) (hex_rest_r s (drop s doc)) a T T') where
        pub hex_stop : (parent u : ℕ) (R R' : List ℕ) → a ≡ Err u
            → Furthers doc c parent BYTES (hex_lines_r col (e + 1) (drop (e + 1) doc)) (part_end e) part_text (e + 1) x (Err u) R R' T₀ T'
        unfolding hex_lines_r
        hex_stop parent u R R' z =
            part_stop (deeper col) (lead col) (hex_line_r col) doc c e x n T₀ T i parent BYTES u (hex_rest_r s (drop s doc)) (record { at = s; row = 0; text = n.text }) a R R' T'
            (deep doc (n.at + 1) s q col more)
            line_is
            (omega (arith, sp.inside, more))
            p
            z

        pub hex_on : (m : Cursor) → a ≡ Ok m → HexLining m T₀ T'
        hex_on m z =
            part_on (deeper col) (lead col) (hex_line_r col) doc c e x n T₀ T i tame (record { at = s; row = 0; text = n.text }) m (hex_rest_r s (drop s doc)) a T'
            (deep doc (n.at + 1) s q col more)
            line_is
            (omega (arith, more))
            refl
            p
            z

        pub hex_further : (m : Cursor) → a ≡ Ok m → length doc - m.at < length doc - n.at
        unfolding PartAt
        hex_further m z = let y : Parted doc (record { at = s; row = 0; text = n.text }) (hex_rest_r s (drop s doc)) m T T' = rw z at p in omega (arith, y.ahead, sp.from, y.inside)

-- ---- open block bytes
module _ (doc : List ℕ) (c : Cursor) (col : ℕ) (i : Asked doc c 62 col) (a : Ans) (t : Takes doc c 62 a) (n : Cursor) (z : a ≡ Ok n) (g : Ans) (y : Takes doc n 32 g) where
  first_next : n ≡ onward c 1
  first_next = take_next doc c 62 a t n z

  open_tail : open_bytes_r col c.at (drop c.at doc) ≡ bind (bind (byte_r (is (only 32)) n.at (drop n.at doc)) (λ _. word_r [])) (λ _. open_bytes_rest_r col c.at)
  unfolding open_bytes_r
  open_tail = rw first_next (ap (λ o. bind (bind o (λ _. word_r (32 ∷ []))) (λ _. open_bytes_rest_r col c.at)) (byte_is doc c.at 62 (peek doc c.at) (omega arith) refl i.first))

  pub bytes_bad : (p : ℕ) → g ≡ Err p → (parent : ℕ) (R T : List ℕ) → Blocks doc c parent (open_bytes_r col c.at (drop c.at doc)) (Err p) R R T T
  bytes_bad p w parent R T =
      not_block doc c parent _ R R T T p
      (open_tail
      ∙ (ap (λ o. bind (bind o (λ _. word_r [])) (λ _. open_bytes_rest_r col c.at)) (byte_not doc n.at 32 (peek doc n.at) (omega arith) refl (take_other doc n 32 g y p w))
      ∙ ap bad (sym (take_place doc n 32 g y p w))))

  module _ (m : Cursor) (w : g ≡ Ok m) where
    behind : m ≡ onward n 1
    behind = take_next doc n 32 g y m w

    far_off : m.at ≡ c.at + 2
    far_off = ap (λ (q : Cursor). q.at) behind ∙ (ap (λ (q : Cursor). q.at + 1) first_next ∙ omega arith)

    same_text : m.text ≡ c.text
    same_text = ap (λ (q : Cursor). q.text) behind ∙ ap (λ (q : Cursor). q.text) first_next

    open_in : c.at + 1 < length doc
    open_in = let k = peek_in doc n.at 32 (take_byte doc n 32 g y m w) (omega arith) in let e = ap (λ (q : Cursor). q.at) first_next in omega arith

    pub bytes_ready : Ready doc (record { at = m.at; row = 0; text = m.text })
    bytes_ready =
        let d = i.ready.few_text in
        let f = i.ready.few_escapes in
        record { small = i.ready.small; inside = omega (arith, open_in, far_off); few_rows = omega arith; few_text = rw same_text (omega (arith, far_off)); few_escapes = rw same_text (omega (arith, far_off)) }

    open_is : open_bytes_r col c.at (drop c.at doc) ≡ open_bytes_rest_r col c.at m.at (drop m.at doc)
    open_is =
        rw behind
        (open_tail ∙ ap (λ o. bind (bind o (λ _. word_r [])) (λ _. open_bytes_rest_r col c.at)) (byte_is doc n.at 32 (peek doc n.at) (omega arith) refl (sym (take_byte doc n 32 g y m w))))

    module _ (r : Ans) (T T₁ : List ℕ) (p : PartAt doc (record { at = m.at; row = 0; text = m.text }) (hex_rest_r m.at (drop m.at doc)) r T T₁) where
      pub bytes_stop : (u : ℕ) → r ≡ Err u → (parent : ℕ) (R : List ℕ) → Blocks doc c parent (open_bytes_r col c.at (drop c.at doc)) (Err u) R R T T₁
      unfolding PartAt
      bytes_stop u x parent R =
          let q : hex_rest_r m.at (drop m.at doc) ≡ bad u = rw x at p in
          not_block doc c parent _ R R T T₁ u (open_is ∙ ap (λ o. bind o (λ h. map_r (λ hs. bytes_tree c.at (h ∷ hs)) (hex_lines_r col))) q)

      module _ (e : Cursor) (x : r ≡ Ok e) where
        first : Parted doc (record { at = m.at; row = 0; text = m.text }) (hex_rest_r m.at (drop m.at doc)) e T T₁
        unfolding PartAt
        first = rw x at p

        -- where the first line's text ends
        first_fits : spot c.text + length first.bytes.bytes < ESCAPE
        first_fits = omega (arith, i.ready.small, i.ready.few_text, first.few, first.inside, far_off)

        first_text : e.text ≡ c.text + told first.bytes
        first_text = first.end ∙ ap (◌+ told first.bytes) same_text

        pub bytes_begun : Begun doc c e.at e.text col
        bytes_begun =
            let d = i.ready.few_text in
            let f = i.ready.few_escapes in
            let p = ap spot first_text ∙ spot_on c.text (length first.bytes.bytes) first.bytes.escapes first_fits in
            let q = ap tally first_text ∙ tally_on c.text (length first.bytes.bytes) first.bytes.escapes first_fits in
            record {
              ready = i.ready;
              ahead = omega (arith, first.ahead, far_off);
              inside = first.inside;
              few = omega (arith, first.few, far_off);
              scant = omega (arith, first.scant, far_off);
              low = i.low;
            }

        pub bytes_block : (parent : ℕ) (k : Block) (R R' T' : List ℕ)
            → Furthers doc c parent BYTES (hex_lines_r col (e.at + 1) (drop (e.at + 1) doc)) (part_end e.at) part_text (e.at + 1) e.text k R R' T₁ T'
            → Blocks doc c parent (open_bytes_r col c.at (drop c.at doc)) k R R' T T'
        unfolding hex_lines_r
        bytes_block parent k R R' T' f =
            block_of doc c parent BYTES (hex_lines_r col (e.at + 1) (drop (e.at + 1) doc)) (part_end e.at) part_text (e.at + 1) e.text k R R' T T₁ T' _ first.bytes
            i.ready
            (open_is
            ∙ (ap (λ o. bind o (λ h. map_r (λ hs. bytes_tree c.at (h ∷ hs)) (hex_lines_r col))) first.reads
            ∙ below_first (deeper col) (lead col) (hex_line_r col) (hex_line_exact col).moves (λ h hs. bytes_tree c.at (h ∷ hs)) first.far (part first.bytes e.at) (e.at + 1) (drop (e.at + 1) doc) first.near))
            (lit< tt)
            (first.room ∙ ap (λ x. sets T (spot x) first.bytes.bytes) same_text)
            first_text
            (omega (arith, first.few, far_off))
            (omega (arith, first.scant, far_off))
            f

-- ---- the leader of a property's block bytes
module _ (doc : List ℕ) (n : Cursor) (a : Ans) (t : Takes doc n 32 a) where
  pub leader_comment : (m : Cursor) → a ≡ Ok m → (g : Skip) (r : Ans) → Skips doc m.at (comment_r m.at (drop m.at doc)) g → r ≡ closes doc n g
      → Closing doc n.at (leader_comment_r n.at (drop n.at doc)) n r
  unfolding leader_comment_r Closing
  leader_comment m y g r s z = go r (closing doc m.at (comment_r m.at (drop m.at doc)) n g r s z)
    where
      b : peek doc n.at ≡ 32
      b = sym (take_byte doc n 32 a t m y)

      place : m.at ≡ n.at + 1
      place = ap (λ (q : Cursor). q.at) (take_next doc n 32 a t m y)

      same : leader_comment_r n.at (drop n.at doc) ≡ comment_r m.at (drop m.at doc)
      same =
          rw place
          (alt_is doc n.at 32 (peek doc n.at) (omega arith) refl (seq_r (byte_r (is (only 32))) λ _. comment_r) (ret_r []) b
          ∙ ap (λ o. bind o (λ _. comment_r)) (byte_is doc n.at 32 (peek doc n.at) (omega arith) refl b))

      go : (r : Ans) → Closing doc m.at (comment_r m.at (drop m.at doc)) n r → Closing doc n.at (leader_comment_r n.at (drop n.at doc)) n r
      go (Ok e) y =
          record { value = y.value; is = same ∙ y.is; from = omega (arith, y.from, place); inside = y.inside; feed = y.feed; row = y.row; text = y.text }
      go (Err p) (no_end y) = no_end (same ∙ y)
      go (Err p) (no_close v y q) = no_close v (same ∙ y) q

  pub leader_none : (p : ℕ) → a ≡ Err p → Ready doc n → (r : Ans) → r ≡ closes doc n (Ok p) → Closing doc n.at (leader_comment_r n.at (drop n.at doc)) n r
  unfolding leader_comment_r Skips
  leader_none p y i r z =
      closing doc n.at (leader_comment_r n.at (drop n.at doc)) n (Ok n.at) r
      (record {
        value = [];
        is = alt_not doc n.at 32 (peek doc n.at) (omega arith) refl (seq_r (byte_r (is (only 32))) λ _. comment_r) (ret_r []) (take_other doc n 32 a t p y);
        behind = omega arith;
        inside = i.inside;
      })
      (z ∙ ap (λ q. closes doc n (Ok q)) (take_place doc n 32 a t p y))

pub ruleset leading = (leader_comment, leader_none, rules)

-- ---- its hex lines, at least one
module _ (doc : List ℕ) (c : Cursor) (col e : ℕ) (i : Begun doc c e c.text col) (s : ℕ) (q : s ≡ run_end (only 32) doc (e + 1)) where
  first_sp : Spaced doc (e + 1) s
  first_sp = spaced_of doc (e + 1) s (omega (arith, i.inside)) q

  pub first_from : e + 1 ≤ s
  first_from = first_sp.from

  pub first_shallow : (parent : ℕ) (R T : List ℕ) → s - (e + 1) ≤ col
      → Furthers doc c parent BYTES (plus_r (hex_line_r col) (hex_lines_r col) (e + 1) (drop (e + 1) doc)) (part_end 0) part_text (e + 1) c.text (Err s) R R T T
  first_shallow parent R T l =
      let k : s ≤ e + 1 + col = omega (arith, first_sp.from) in
      stopped s refl
      (ap (λ o. bind o (λ v. map_r (v ∷◌) (hex_lines_r col)))
      (deeper_fails (λ _. hex_rest_r) col (e + 1) (drop (e + 1) doc) (shallow doc (e + 1) s q col k) ∙ ap bad (sym (shallow_far doc (e + 1) s q col k))))

  module _ (l : col < s - (e + 1)) where
    first_is : hex_line_r col (e + 1) (drop (e + 1) doc) ≡ hex_rest_r s (drop s doc)
    first_is = deep_reads doc (e + 1) s q (λ _. hex_rest_r) col (omega (arith, first_sp.from))

    pub first_ready : Ready doc (record { at = s; row = 0; text = c.text })
    first_ready =
        let a = i.ahead in
        let b = i.ready.few_rows in
        let d = i.ready.few_text in
        record { small = i.ready.small; inside = first_sp.inside; few_rows = omega (arith, first_sp.from); few_text = omega (arith, first_sp.from); few_escapes = omega (arith, first_sp.from, i.ready.few_escapes) }

    module _ (a : Ans) (T T₁ : List ℕ) (p : PartAt doc (record { at = s; row = 0; text = c.text }) (hex_rest_r s (drop s doc)) a T T₁) where
      pub first_stop : (parent u : ℕ) (R : List ℕ) → a ≡ Err u
          → Furthers doc c parent BYTES (plus_r (hex_line_r col) (hex_lines_r col) (e + 1) (drop (e + 1) doc)) (part_end 0) part_text (e + 1) c.text (Err u) R R T T₁
      unfolding PartAt
      first_stop parent u R z =
          let y : hex_rest_r s (drop s doc) ≡ bad u = rw z at p in
          stopped u refl (ap (λ o. bind o (λ v. map_r (v ∷◌) (hex_lines_r col))) (first_is ∙ y))

      module _ (n : Cursor) (z : a ≡ Ok n) where
        line : Parted doc (record { at = s; row = 0; text = c.text }) (hex_rest_r s (drop s doc)) n T T₁
        unfolding PartAt
        line = rw z at p

        line_fits : spot c.text + length line.bytes.bytes < ESCAPE
        line_fits = omega (arith, i.ready.small, i.ready.few_text, line.few, line.inside, first_sp.from, i.ahead)

        pub first_begun : Begun doc c n.at n.text col
        first_begun =
            let d = i.ready.few_text in
            let f = i.ahead in
            let p = ap spot line.end ∙ spot_on c.text (length line.bytes.bytes) line.bytes.escapes line_fits in
            let q = ap tally line.end ∙ tally_on c.text (length line.bytes.bytes) line.bytes.escapes line_fits in
            record {
              ready = i.ready;
              ahead = omega (arith, line.ahead, first_sp.from);
              inside = line.inside;
              few = omega (arith, line.few, first_sp.from);
              scant = omega (arith, line.scant, first_sp.from, i.ready.few_escapes);
              low = i.low;
            }

        pub first_went : (parent : ℕ) (r : Block) (R R' T' : List ℕ)
            → Furthers doc c parent BYTES (hex_lines_r col (n.at + 1) (drop (n.at + 1) doc)) (part_end n.at) part_text (n.at + 1) n.text r R R' T₁ T'
            → Furthers doc c parent BYTES (plus_r (hex_line_r col) (hex_lines_r col) (e + 1) (drop (e + 1) doc)) (part_end 0) part_text (e + 1) c.text r R R' T T'
        unfolding hex_lines_r
        first_went parent r R R' T' f =
            further_plus (deeper col) (lead col) (hex_line_r col) (hex_line_exact col).moves doc c parent BYTES (hex_line_r col (e + 1) (drop (e + 1) doc)) (e + 1) c.text line.far n.at
            line.bytes r R R' T T₁ T' (first_is ∙ line.reads) line.near line.room (omega (arith, line.few, first_sp.from)) (omega (arith, line.scant, first_sp.from)) line_fits
            (subst (λ j. Furthers doc c parent BYTES (hex_lines_r col (n.at + 1) (drop (n.at + 1) doc)) (part_end n.at) part_text (n.at + 1) j r R R' T₁ T') line.end f)

-- ---- a property's block bytes
module _ (doc : List ℕ) (c : Cursor) (col : ℕ) (i : Asked doc c 62 col) (g : Ans) (t : Takes doc c 62 g) (m : Cursor) (w : g ≡ Ok m) where
  property_next : m ≡ onward c 1
  property_next = take_next doc c 62 g t m w

  place : m.at ≡ c.at + 1
  place = ap (λ (q : Cursor). q.at) property_next

  pub property_ready : Ready doc m
  property_ready =
      let k = peek_in doc c.at 62 (sym i.first) (omega arith) in
      let a = i.ready.few_rows in
      let d = i.ready.few_text in
      rw property_next (record { small = i.ready.small; inside = omega arith; few_rows = omega arith; few_text = omega arith; few_escapes = omega (arith, i.ready.few_escapes) })

  property_tail : property_bytes_r col c.at (drop c.at doc)
      ≡ bind (leader_comment_r m.at (drop m.at doc)) (λ _. seq_r (byte_r (is (only 10))) λ _. map_r (bytes_tree c.at) (plus_r (hex_line_r col) (hex_lines_r col)))
  unfolding property_bytes_r
  property_tail = rw place (ap (λ o. bind o (λ _. property_bytes_rest_r col c.at)) (byte_is doc c.at 62 (peek doc c.at) (omega arith) refl i.first))

  module _ (a : Ans) (x : Closing doc m.at (leader_comment_r m.at (drop m.at doc)) m a) where
    pub property_stop : (u : ℕ) → a ≡ Err u → (parent : ℕ) (R T : List ℕ) → Blocks doc c parent (property_bytes_r col c.at (drop c.at doc)) (Err u) R R T T
    unfolding Closing
    property_stop u z parent R T = not_block doc c parent _ R R T T u (property_tail ∙ by (rw z at x))
      where
        by : Unclosed doc (leader_comment_r m.at (drop m.at doc)) u
            → bind (leader_comment_r m.at (drop m.at doc)) (λ _. seq_r (byte_r (is (only 10))) λ _. map_r (bytes_tree c.at) (plus_r (hex_line_r col) (hex_lines_r col))) ≡ bad u
        by (no_end y) = ap (λ o. bind o (λ _. seq_r (byte_r (is (only 10))) λ _. map_r (bytes_tree c.at) (plus_r (hex_line_r col) (hex_lines_r col)))) y
        by (no_close v y q) =
            ap (λ o. bind o (λ _. seq_r (byte_r (is (only 10))) λ _. map_r (bytes_tree c.at) (plus_r (hex_line_r col) (hex_lines_r col)))) y
            ∙ ap (λ o. bind o (λ _. map_r (bytes_tree c.at) (plus_r (hex_line_r col) (hex_lines_r col)))) (byte_not doc u 10 (peek doc u) (omega arith) refl q)

    module _ (n : Cursor) (z : a ≡ Ok n) where
      closed : Closed doc m.at (leader_comment_r m.at (drop m.at doc)) m n
      unfolding Closing
      closed = rw z at x

      pub property_begun : Begun doc c n.at c.text col
      property_begun =
          let d = i.ready.few_text in
          let f = i.ready.few_escapes in
          record { ready = i.ready; ahead = omega (arith, closed.from, place); inside = closed.inside; few = omega (arith, closed.from, place); scant = omega (arith, closed.from, place); low = i.low }

      pub property_block : (parent : ℕ) (r : Block) (R R' T T' : List ℕ)
          → Furthers doc c parent BYTES (plus_r (hex_line_r col) (hex_lines_r col) (n.at + 1) (drop (n.at + 1) doc)) (part_end 0) part_text (n.at + 1) c.text r R R' T T'
          → Blocks doc c parent (property_bytes_r col c.at (drop c.at doc)) r R R' T T'
      property_block parent r R R' T T' f =
          block_of doc c parent BYTES (plus_r (hex_line_r col) (hex_lines_r col) (n.at + 1) (drop (n.at + 1) doc)) (part_end 0) part_text (n.at + 1) c.text r R R' T T T' _ (unescaped [])
          i.ready
          (property_tail
          ∙ (ap (λ o. bind o (λ _. seq_r (byte_r (is (only 10))) λ _. map_r (bytes_tree c.at) (plus_r (hex_line_r col) (hex_lines_r col)))) closed.is
          ∙ (ap (λ o. bind o (λ _. map_r (bytes_tree c.at) (plus_r (hex_line_r col) (hex_lines_r col)))) (byte_is doc n.at 10 (peek doc n.at) (omega arith) refl closed.feed)
          ∙ (map_fmap (bytes_tree c.at) (plus_r (hex_line_r col) (hex_lines_r col) (n.at + 1) (drop (n.at + 1) doc))
          ∙ fmap_same (bytes_tree c.at) _ (plus_r (hex_line_r col) (hex_lines_r col) (n.at + 1) (drop (n.at + 1) doc)) (λ hs. ap (leaf BYTES c.at (part_end 0 hs)) (sym (none_then (part_text hs))))))))
          (lit< tt)
          refl
          (sym (add-zero c.text))
          (omega (arith, closed.from, place))
          (omega (arith, closed.from, place))
          f

pub ruleset open_bytes = (not_led, bytes_bad, bytes_ready, bytes_stop, bytes_begun, bytes_block, rules)

pub ruleset property_bytes = (not_led, property_ready, property_stop, property_begun, property_block, rules)

pub ruleset hexing = (hex_from, hex_done, hex_ready, hex_stop, hex_on, hex_further, part_small, rules)

pub ruleset first_lines = (first_from, first_shallow, first_ready, first_stop, first_begun, first_went, rules)

pub ruleset hex_resting = (rest_bare, rest_bad, rest_inside, rest_pairs, rules)

-- THE TEXT OF A KEY, A BYTE AT A TIME: what the reading of a text has before it (`Rest`), and what it gives next (`Nexts`). Assumes nothing.
use Rattle.std.specs.Prelude.{◌≡◌, Bool, ℕ, suc, ◌+◌, ◌-◌, ◌*◌, ◌≤◌, ◌<◌, length, take, drop}
use Rattle.std.proofs.Math.Path.{refl, ap}
use Rattle.std.proofs.Common.{sym, subst, ◌∙◌, arith, take_at, rules, le-leb}
use mathlib.Core.List.{List, [], ◌∷◌, ◌++◌}
use Rattle.std.proofs.Math.Bool.{true, false}
use Rattle.std.proofs.Math.Numerals.{add-one}
use Rattle.std.proofs.Math.Decide.{ℕ_discrete, dec_le}
use Rattle.std.proofs.Math.ListN.{get_or}
use Rattle.std.proofs.lemmas.List.Edits.{sets, sets-eq}
use Rattle.std.proofs.Math.Seq.{slice, slice_empty, slice-cons, length-sets, length-slice}
use Rattle.std.proofs.lemmas.Bool.{lt-leb}
use Rattle.language.specs.Strings.{keybyte, lettered, stands_for}
use Rattle.language.specs.Answered.{limit}
use Rattle.exact.specs.Class.{is}
use Rattle.language.specs.Characters.{utf8}
use Rattle.language.specs.Tree.{Decoded, unescaped, escaped}
use Rattle.exact.specs.Out.{ok, bind}
use Rattle.exact.specs.Lang.{ret_r}
use Rattle.exact.specs.Comb.{map_r}
use Rattle.exact.specs.Place.{peek, alt_not}
use Rattle.utf8.specs.Utf8.{char_r}
use Rattle.rooms.specs.declared.Cursor.{Cursor}
use Rattle.rooms.specs.Contract.{Ans}
use Rattle.std.specs.declared.option.Option.TheVariants.{None, Some}
use Rattle.std.specs.declared.result.Result.TheVariants.{Err, Ok}
use Rattle.rooms.specs.Told.{spot, spot_on, spot_low, tally_low}
use Rattle.rooms.specs.Contract.{ample, Ready}
use Rattle.characters.specs.declared.Reading.{Reading}
use Rattle.characters.specs.Reads.{Took}
use Rattle.characters.specs.Reads.{Read}
use Rattle.characters.specs.Reads.{ByteRead, byte_inside, byte_there, byte_next, byte_over, Stands, ReadAt}
use Rattle.characters.specs.Plains.{Quote, double, single, plain_of}
use Rattle.strings.specs.Quoted.{coded_r}
use Rattle.strings.specs.Inside.{escapes_r, special_r, Special}
use Rattle.strings.specs.Contract.{Texts, Texted, Letter, letter_some, letter_none}
use Rattle.strings.specs.Joining.{itself}
use Rattle.named.specs.Lie.{KeyAt}
use Rattle.spelt.specs.declared.spelling.Spelling.{Spelling}
use Rattle.std.specs.declared.option.Option.{Option}
use Rattle.spelt.specs.Pieces.{Few, utf8_few, piece_few}
use Rattle.spelt.specs.Left.{Left, After, left_quote, key_more, key_over, piece_more, piece_none, plain_more, quote_over, quoted_inside, letter_is, coded_is, single_escape, single_kept, whole_double, whole_single, whole_bare}

-- what the reading of a text gives, as the crate's type of this name says it: the next byte and the text behind it, or that the text is over
abbrev pub Given : Type 0
Given = Option (ℕ × Spelling)

-- s is before it: the bytes of the room from `from` up to `to`, and what is left in the document
pub record Rest (doc room : List ℕ) (p : Spelling) (s : List ℕ) : Type 0 where
  pub tail : List ℕ
  pub left : Left doc p.quote p.at tail
  pub ordered : p.from ≤ p.to
  pub fits : p.to ≤ length room
  pub is : s ≡ slice p.from p.to room ++ tail

-- some text is, in a room for one piece
pub record Spellable (doc room : List ℕ) (p : Spelling) : Type 0 where
  pub short : length doc ≤ limit
  pub long : length room ≡ 8
  pub text : List ℕ
  pub rest : Rest doc room p text

-- how much may come yet
abbrev pub weight : List ℕ → Spelling → ℕ
weight doc p = 16 * (length doc - p.at) + (p.to - p.from)

-- the byte b, and the rest
pub record Then (doc room : List ℕ) (b : ℕ) (n : Spelling) (s : List ℕ) : Type 0 where
  pub others : List ℕ
  pub is : s ≡ b ∷ others
  pub rest : Rest doc room n others

pub record Gave (doc room : List ℕ) (p : Spelling) (room' : List ℕ) (b : ℕ) (n : Spelling) : Type 0 where
  pub less : weight doc n < weight doc p
  pub more : (s : List ℕ) → Rest doc room p s → Then doc room' b n s

-- the first byte of a character below 128
first_byte : (doc : List ℕ) (at v n : ℕ) → Stands doc at v n → v ≤ 127 → peek doc at ≡ v
first_byte doc at v n s l =
    let p : slice at n doc ≡ peek doc at ∷ slice (suc at) n doc = slice-cons at n doc 256 s.ahead s.inside in
    let u : utf8 v ≡ v ∷ [] = rw (le-leb v 127 l) refl in
    let w = s.bytes in
    cc

-- THE CONTRACT: whatever text is before it, its first byte is given, or it is over
unfoldable pub Nexts : List ℕ → List ℕ → Spelling → List ℕ → Given → Type 0
Nexts doc room p room' (Some (b, n)) = Gave doc room p room' b n
Nexts doc room p room' None = (s : List ℕ) → Rest doc room p s → s ≡ []

-- ---- nothing of the room is before it

module _ (doc room : List ℕ) where
  pub rest_tail : (p : Spelling) (s : List ℕ) → p.to ≤ p.from → Rest doc room p s → Left doc p.quote p.at s
  rest_tail p s d r =
      let e : p.from ≡ p.to = omega (arith, r.ordered) in
      let f : slice p.from p.to room ≡ [] = rw e (slice_empty p.to room) in
      let g : s ≡ r.tail = r.is ∙ ap (◌++ r.tail) f in
      rw g r.left

  pub rest_fresh : (q at : ℕ) (s : List ℕ) → Left doc q at s → Rest doc room (record { at = at; quote = q; from = 0; to = 0 }) s
  rest_fresh q at s l = record { tail = s; left = l; ordered = omega arith; fits = omega arith; is = refl }

-- THE KEY AT A PLACE, from its first byte on
abbrev pub Begins : List ℕ → ℕ → Spelling → Type 0
Begins doc at p = (s : List ℕ) (m : ℕ) → KeyAt doc at s m → (room : List ℕ) → Rest doc room p s

module _ (doc : List ℕ) (at b : ℕ) (h : b ≡ peek doc at) where
  pub begin_double : b ≡ 34 → Begins doc at (record { at = at + 1; quote = 34; from = 0; to = 0 })
  begin_double e s m k room = rest_fresh doc room 34 (at + 1) s (whole_double doc at m s k b h e)

  pub begin_single : b ≡ 39 → Begins doc at (record { at = at + 1; quote = 39; from = 0; to = 0 })
  begin_single e s m k room = rest_fresh doc room 39 (at + 1) s (whole_single doc at m s k b h e)

  pub begin_bare : (b ≡ 34 → ⊥) → (b ≡ 39 → ⊥) → Begins doc at (record { at = at; quote = 0; from = 0; to = 0 })
  begin_bare n o s m k room = rest_fresh doc room 0 at s (whole_bare doc at m s k b h n o)

pub ruleset beginning = (begin_double, begin_single, begin_bare, rules)

-- ---- a byte of the room

module _ (doc room : List ℕ) (p : Spelling) (w : Spellable doc room p) (l : p.from < p.to) where
  pub held_room : p.from < length room
  held_room = omega (arith, w.rest.fits)

  pub held_next : Nexts doc room p room (Some (get_or room p.from 0, record { at = p.at; quote = p.quote; from = p.from + 1; to = p.to }))
  unfolding Nexts
  held_next =
      record {
        less = omega arith;
        more = λ s r.
            let c : slice p.from p.to room ≡ get_or room p.from 0 ∷ slice (p.from + 1) p.to room =
            slice-cons p.from p.to room 0 l r.fits ∙ rw add-one refl in
            record {
              others = slice (p.from + 1) p.to room ++ r.tail;
              is = r.is ∙ ap (◌++ r.tail) c;
              rest = record { tail = r.tail; left = r.left; ordered = omega arith; fits = r.fits; is = refl };
            };
      }

-- ---- what comes next in the document

-- an escape or a character of several bytes stands next
pub record Pieced (doc room : List ℕ) (p : Spelling) : Type 0 where
  pub able : Spellable doc room p
  pub none : p.to ≤ p.from
  pub inside : p.at < length doc
  pub quote : Quote p.quote
  pub special : Special p.quote doc p.at

-- a byte that stands as it is
pub step : (doc room : List ℕ) (p : Spelling) (b : ℕ) → p.at < length doc → ((s : List ℕ) → Rest doc room p s → After doc p.quote (p.at + 1) (b ∷ []) s)
    → Gave doc room p room b (record { at = p.at + 1; quote = p.quote; from = 0; to = 0 })
step doc room p b l f =
    record {
      less = omega arith;
      more = λ s r. let a = f s r in record { others = a.rest; is = a.is; rest = rest_fresh doc room p.quote (p.at + 1) a.rest a.left };
    }

module _ (doc room : List ℕ) (p : Spelling) (w : Spellable doc room p) (d : p.to ≤ p.from) where
  pub fresh_quote : (p.quote ≡ 0 → ⊥) → Quote p.quote
  fresh_quote n = left_quote doc p.quote p.at w.text (rest_tail doc room p w.text d w.rest) n

  module _ (t : Took) (h : ByteRead doc p.at t) where
    pub fresh_over : t ≡ None → Nexts doc room p room None
    unfolding Nexts
    fresh_over e s r = by (rest_tail doc room p s d r) (byte_over doc p.at t h e)
      where
        by : Left doc p.quote p.at s → peek doc p.at ≡ 256 → s ≡ []
        by l f = go (ℕ_discrete p.quote 0)
          where
            go : Dec (p.quote ≡ 0) → s ≡ []
            go (yes z) = key_over doc p.quote p.at z s l (rw f refl)
            go (no z) = absurd (quoted_inside doc p.quote p.at (fresh_quote z) s l f)

    module _ (b : ℕ) (m : Reading) (e : t ≡ Some (b, m)) where
      pub there : b ≡ peek doc p.at
      there = byte_there doc p.at t h b m e

      stepped : ((s : List ℕ) → Rest doc room p s → After doc p.quote (p.at + 1) (peek doc p.at ∷ []) s) → Nexts doc room p room (Some (b, record { at = m.at; quote = p.quote; from = 0; to = 0 }))
      unfolding Nexts
      stepped f = rw (byte_next doc p.at t h b m e, there) (step doc room p (peek doc p.at) (byte_inside doc p.at t h b m e) f)

      module _ (x : Bool) where
        pub fresh_key : p.quote ≡ 0 → x ≡ is keybyte b → x ≡ true → Nexts doc room p room (Some (b, record { at = m.at; quote = p.quote; from = 0; to = 0 }))
        fresh_key z k y = stepped (λ s r. key_more doc p.quote p.at z s (rest_tail doc room p s d r) (ap (is keybyte) (sym there) ∙ (sym k ∙ y)))

        pub fresh_ended : p.quote ≡ 0 → x ≡ is keybyte b → x ≡ false → Nexts doc room p room None
        unfolding Nexts
        fresh_ended z k y s r = key_over doc p.quote p.at z s (rest_tail doc room p s d r) (ap (is keybyte) (sym there) ∙ (sym k ∙ y))

        pub fresh_plain : (p.quote ≡ 0 → ⊥) → x ≡ is (plain_of p.quote) b → x ≡ true → Nexts doc room p room (Some (b, record { at = m.at; quote = p.quote; from = 0; to = 0 }))
        fresh_plain z k y = stepped (λ s r. plain_more doc p.quote p.at (fresh_quote z) s (rest_tail doc room p s d r) (ap (is (plain_of p.quote)) (sym there) ∙ (sym k ∙ y)))

        pub fresh_piece : (p.quote ≡ 0 → ⊥) → x ≡ is (plain_of p.quote) b → x ≡ false → (b ≡ p.quote → ⊥) → Pieced doc room p
        fresh_piece z k y n =
            record {
              able = w;
              none = d;
              inside = byte_inside doc p.at t h b m e;
              quote = fresh_quote z;
              special = record { dark = ap (is (plain_of p.quote)) (sym there) ∙ (sym k ∙ y); other = λ f. n (there ∙ f) };
            }

      pub fresh_close : (p.quote ≡ 0 → ⊥) → b ≡ p.quote → Nexts doc room p room None
      unfolding Nexts
      fresh_close z f s r = quote_over doc p.quote p.at (fresh_quote z) s (rest_tail doc room p s d r) (sym there ∙ f)

pub ruleset freshly = (there, fresh_quote, fresh_over, fresh_key, fresh_ended, fresh_plain, fresh_piece, fresh_close, rules)

-- ---- a piece

-- bytes that stand in the room now, and stand for what is read up to n
module _ (doc room : List ℕ) (p : Spelling) (w : Pieced doc room p) (bytes room' : List ℕ) (few : Few 5 bytes) (room_is : room' ≡ sets room 0 bytes) where
  room_long : length room' ≡ 8
  room_long = ap length room_is ∙ (length-sets room 0 bytes ∙ w.able.long)

  held : take (length bytes) room' ≡ bytes
  held =
      let g : 0 + length bytes ≤ length room = omega (arith, few.few, w.able.long) in
      ap (take (length bytes)) room_is ∙ (ap (take (length bytes)) (sets-eq bytes room 0 g) ∙ take_at bytes (drop (0 + length bytes) room) (length bytes) (omega arith))

  first : bytes ≡ get_or room' 0 0 ∷ slice 1 (length bytes) room'
  first = sym held ∙ slice-cons 0 (length bytes) room' 0 few.some (omega (arith, few.few, room_long))

  roomed : (n to : ℕ) → to ≡ length bytes → p.at < n → n ≤ length doc → ((s : List ℕ) → Rest doc room p s → After doc p.quote n bytes s)
      → Gave doc room p room' (get_or room' 0 0) (record { at = n; quote = p.quote; from = 1; to = to })
  roomed n to y l i f =
      record {
        less = omega (arith, few.few);
        more = λ s r.
            let q = f s r in
            record {
              others = slice 1 to room' ++ q.rest;
              is = q.is ∙ (ap (◌++ q.rest) first ∙ rw y refl);
              rest = record { tail = q.rest; left = q.left; ordered = omega (arith, few.some); fits = omega (arith, few.few, room_long); is = refl };
            };
      }

module _ (doc room : List ℕ) (p : Spelling) (w : Pieced doc room p) where
  left_of : (s : List ℕ) → Rest doc room p s → Left doc p.quote p.at s
  left_of s r = rest_tail doc room p s w.none r

  pub piece_room : (x : ℕ) (vs room' : List ℕ) → room' ≡ sets room x vs → 0 < length room'
  piece_room x vs room' e = omega (arith, ap length e, length-sets room x vs, w.able.long)

  pub piece_single : (p.quote ≡ 34 → ⊥) → p.quote ≡ 39
  piece_single n = by w.quote n
    where
      by : {q : ℕ} → Quote q → (q ≡ 34 → ⊥) → q ≡ 39
      by double n = absurd (n refl)
      by single n = refl

  -- an escape in double quotes
  module _ (h : peek doc p.at ≡ 92) (q : p.quote ≡ 34) where
    pub escaped_fits : p.at < limit
    escaped_fits = omega (arith, w.inside, w.able.short)

    as_double : (d : Decoded) (n : ℕ) → special_r 34 p.at (drop p.at doc) ≡ ok d n (drop n doc) → special_r p.quote p.at (drop p.at doc) ≡ ok d n (drop n doc)
    as_double d n e = rw q e

    -- .. of a letter
    module _ (b : ℕ) (r : Option ℕ) (e : b ≡ peek doc (p.at + 1)) (z : Letter b r) where
      pub letter_coded : r ≡ None → is lettered (peek doc (p.at + 1)) ≡ false
      letter_coded f = ap (is lettered) (sym e) ∙ letter_none b r z f

      pub letter_next : (v : ℕ) → r ≡ Some v → Nexts doc room p room (Some (v, record { at = p.at + 2; quote = p.quote; from = 0; to = 0 }))
      unfolding Nexts
      letter_next v g =
          let l = letter_some b r z v g in
          let f = as_double (escaped (stands_for (peek doc (p.at + 1)) ∷ [])) (p.at + 2) (letter_is doc p.at h (ap (is lettered) (sym e) ∙ l.0)) in
          let k : v ≡ stands_for (peek doc (p.at + 1)) = l.1 ∙ ap stands_for e in
          rw k
          (record {
            less = omega (arith, w.inside);
            more = λ s r.
                let a = piece_more doc p.quote p.at w.quote s (left_of s r) w.special.other (escaped (stands_for (peek doc (p.at + 1)) ∷ [])) (p.at + 2) f in
                record { others = a.rest; is = a.is; rest = rest_fresh doc room p.quote (p.at + 2) a.rest a.left };
          })

    -- .. of `u{..}`
    module _ (y : is lettered (peek doc (p.at + 1)) ≡ false) where
      abbrev c : Cursor
      c = record { at = p.at + 1; row = 0; text = 0 }

      pub coded_ready : Ready doc c
      coded_ready =
          record {
            small = w.able.short;
            inside = omega (arith, w.inside);
            few_rows = omega arith;
            few_text = omega (arith, spot_low 0 (omega arith));
            few_escapes = omega (arith, tally_low 0 (omega arith));
          }

      as_piece : special_r p.quote p.at (drop p.at doc) ≡ coded_r (p.at + 1) (drop (p.at + 1) doc)
      as_piece = rw q (coded_is doc p.at h y)

      module _ (a : Ans) (room' : List ℕ) (t : Texts doc c (coded_r (p.at + 1) (drop (p.at + 1) doc)) a room room') where
        pub coded_no : (i : ℕ) → a ≡ Err i → Nexts doc room p room' None
        unfolding Nexts Texts
        coded_no i e s r = absurd (piece_none doc p.quote p.at w.quote s (left_of s r) w.special.other i (as_piece ∙ (rw e at t)))

        module _ (n : Cursor) (e : a ≡ Ok n) where
          x : Texted itself doc c (coded_r (p.at + 1) (drop (p.at + 1) doc)) n 0 room room'
          unfolding Texts
          x = rw e at t

          piece_is : special_r p.quote p.at (drop p.at doc) ≡ ok x.value n.at (drop n.at doc)
          piece_is = as_piece ∙ x.is

          few : Few 5 x.value.bytes
          few = piece_few w.quote p.at (drop p.at doc) x.value n.at (drop n.at doc) piece_is

          room_is : room' ≡ sets room 0 x.value.bytes
          room_is = rw (← spot_low 0 (omega arith)) x.spelt.room

          pub coded_room : 0 < length room'
          coded_room = piece_room 0 x.value.bytes room' room_is

          to_is : spot n.text ≡ length x.value.bytes
          to_is =
              let g = spot_low 0 (omega arith) in
              ap spot x.spelt.end ∙ (spot_on 0 (length x.value.bytes) x.value.escapes (omega (arith, few.few)) ∙ omega arith)

          pub coded_yes : (to : ℕ) → to ≡ spot n.text → Nexts doc room p room' (Some (get_or room' 0 0, record { at = n.at; quote = p.quote; from = 1; to = to }))
          unfolding Nexts
          coded_yes to z =
              roomed doc room p w x.value.bytes room' few room_is n.at to (z ∙ to_is) (omega (arith, x.spelt.ahead)) x.spelt.inside
              (λ s r. piece_more doc p.quote p.at w.quote s (left_of s r) w.special.other x.value n.at piece_is)

  -- a backslash in single quotes
  module _ (h : peek doc p.at ≡ 92) (q : p.quote ≡ 39) where
    as_single : (s : List ℕ) → Rest doc room p s → Left doc 39 p.at s
    as_single s r = subst (λ (j : ℕ). Left doc j p.at s) q (left_of s r)

    stands : (b n : ℕ) → p.at < n → n ≤ p.at + 2 → ((s : List ℕ) → Left doc 39 p.at s → After doc 39 n (b ∷ []) s) → Nexts doc room p room (Some (b, record { at = n; quote = p.quote; from = 0; to = 0 }))
    unfolding Nexts
    stands b n l m f =
        record {
          less = omega (arith, w.inside);
          more = λ s r. let a = f s (as_single s r) in record { others = a.rest; is = a.is; rest = rest_fresh doc room p.quote n a.rest (subst (λ (j : ℕ). Left doc j n a.rest) (sym q) a.left) };
        }

    pub single_fits : p.at < limit
    single_fits = omega (arith, w.inside, w.able.short)

    module _ (b : ℕ) (e : b ≡ peek doc (p.at + 1)) where
      pub single_quoted : b ≡ 39 → Nexts doc room p room (Some (39, record { at = p.at + 2; quote = p.quote; from = 0; to = 0 }))
      single_quoted f = stands 39 (p.at + 2) (omega arith) (omega arith) (λ s l. single_escape doc p.at s l h 39 (sym f ∙ e) refl (omega arith))

      pub single_back : b ≡ 92 → Nexts doc room p room (Some (92, record { at = p.at + 2; quote = p.quote; from = 0; to = 0 }))
      single_back f = stands 92 (p.at + 2) (omega arith) (omega arith) (λ s l. single_escape doc p.at s l h 92 (sym f ∙ e) refl (omega arith))

      pub single_stays : (b ≡ 39 → ⊥) → (b ≡ 92 → ⊥) → Nexts doc room p room (Some (92, record { at = p.at + 1; quote = p.quote; from = 0; to = 0 }))
      single_stays m n = stands 92 (p.at + 1) (omega arith) (omega arith) (λ s l. single_kept doc p.at s l h b e m n)

  -- a character of several bytes
  module _ (h : peek doc p.at ≡ 92 → ⊥) (r : Read) (t : ReadAt doc p.at r) where
    as_char : special_r p.quote p.at (drop p.at doc) ≡ map_r unescaped (char_r (plain_of p.quote)) p.at (drop p.at doc)
    as_char = alt_not doc p.at 92 (peek doc p.at) (omega arith) refl (escapes_r p.quote) (map_r unescaped (char_r (plain_of p.quote))) h

    pub wide_no : (i : ℕ) → r ≡ Err i → Nexts doc room p room None
    unfolding Nexts ReadAt
    wide_no i e s x =
        let f = rw e at t in
        absurd (piece_none doc p.quote p.at w.quote s (left_of s x) w.special.other i (as_char ∙ ap (λ o. bind o (λ s. ret_r (unescaped s))) (f (plain_of p.quote))))

    module _ (v : ℕ) (n : Reading) (e : r ≡ Ok (v, n)) where
      here : Stands doc p.at v n.at
      unfolding ReadAt
      here = rw e at t

      pub wide_from : p.at ≤ n.at
      wide_from = let k = here.ahead in omega arith

      pub wide_inside : n.at ≤ length doc
      wide_inside = here.inside

      pub wide_small : 0 + n.at < ample
      wide_small = let k = here.ahead in let j = here.inside in omega (arith, w.able.short)

      bytes_long : length (slice p.at n.at doc) ≡ n.at - p.at
      bytes_long = length-slice p.at n.at doc here.inside

      wide_few : Few 5 (slice p.at n.at doc)
      wide_few = let f = utf8_few v in rw here.bytes (record { some = f.some; few = omega (arith, f.few) })

      read : (s : List ℕ) → Rest doc room p s → After doc p.quote n.at (slice p.at n.at doc) s
      read s x = by (dec_le v 127)
        where
          by : Dec (v ≤ 127) → After doc p.quote n.at (slice p.at n.at doc) s
          by (yes l) =
              let z : is (plain_of p.quote) v ≡ false = rw (← first_byte doc p.at v n.at here l) w.special.dark in
              absurd (piece_none doc p.quote p.at w.quote s (left_of s x) w.special.other p.at (as_char ∙ rw (here.taken (plain_of p.quote), le-leb v 127 l, z) refl))
          by (no l) =
              let g : 127 < v = omega arith in
              rw here.bytes (piece_more doc p.quote p.at w.quote s (left_of s x) w.special.other (unescaped (utf8 v)) n.at
              (as_char ∙ rw (here.taken (plain_of p.quote), lt-leb v 127 g, here.allowed g) refl))

      pub wide_yes : (room' : List ℕ) → room' ≡ sets room 0 (slice p.at n.at doc) → Nexts doc room p room' (Some (get_or room' 0 0, record { at = n.at; quote = p.quote; from = 1; to = n.at - p.at }))
      unfolding Nexts
      wide_yes room' z = roomed doc room p w (slice p.at n.at doc) room' wide_few z n.at (n.at - p.at) (sym bytes_long) here.ahead here.inside read

pub ruleset coding = (escaped_fits, coded_ready, coded_no, coded_room, coded_yes, rules)

pub ruleset escaping = (escaped_fits, letter_coded, letter_next, rules)

pub ruleset singling = (single_fits, single_quoted, single_back, single_stays, rules)

pub ruleset widening = (piece_room, wide_no, wide_from, wide_inside, wide_small, wide_yes, rules)

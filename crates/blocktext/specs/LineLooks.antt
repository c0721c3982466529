-- THE LINES OF A BODY at a place of a document: what a look at the first byte, the spaces and the text say of their reader.
use Rattle.std.specs.Prelude.{◌≡◌, List, [], ◌∷◌, ◌++◌, Bool, true, false, ℕ, suc, ◌+◌, ◌-◌, ◌≤◌, ◌<◌, length}
use Rattle.std.proofs.Math.Path.{refl, ap}
use Rattle.std.proofs.Common.{sym, subst, ◌∙◌, arith}
use Rattle.std.proofs.Math.ListN.{drop}
use Rattle.std.proofs.Math.Seq.{slice}
use Rattle.notation.specs.Lang.{cat}
use Rattle.language.specs.Characters.{dark}
use Rattle.language.specs.BlockText.{blank, line}
use Rattle.exact.specs.Class.{is, only, only_no, or_right}
use Rattle.exact.specs.Out.{Out, bind, Firm, f_ok, f_bad, ok, bad}
use Rattle.exact.specs.Lang.{ret_r, byte_r}
use Rattle.exact.specs.Comb.{seq_r, many_r}
use Rattle.exact.specs.Ll.{star_ll}
use Rattle.exact.specs.Block.{ind_none}
use Rattle.exact.specs.Place.{peek, peek_cons, There, there, byte_there, none_there, byte_is, byte_not, alt_is, alt_not}
use Rattle.utf8.specs.Char.{char_r}
use Rattle.utf8.proofs.CharLaws.{char_ll}
use Rattle.characters.specs.Comments.{piece_r, piece_s, piece_ll}
use Rattle.blocktext.specs.Pieces.{solid_r}
use Rattle.blocktext.specs.LineEnd.{line_end_r}
use Rattle.blocktext.specs.Deeper.{deeper, deeper_r}
use Rattle.blocktext.specs.TextLines.{text_line_r, goes_on, body_line_r, blank_r}
use Rattle.blocktext.specs.Spaces.{deep, shallow, shallow_far, deep_reads, space_in, no_space}
use Rattle.blocktext.specs.Contract.{Spaced, Texted, Untexted, no_text, no_feed, SeenBlank, SeenText, SeenNone, SeenBad}

-- THE END OF A LINE
module _ {X : Type 0} (f : ℕ → X) (doc : List ℕ) (e : ℕ) where
  pub line_closed : peek doc e ≡ 10 → line_end_r f e (drop e doc) ≡ ok (f e) (e + 1) (drop (e + 1) doc)
  line_closed h = ap (λ o. bind o (λ _. ret_r (f e))) (byte_is doc e 10 (peek doc e) (omega arith) refl h)

  pub line_open : (peek doc e ≡ 10 → ⊥) → line_end_r f e (drop e doc) ≡ bad e
  line_open h = ap (λ o. bind o (λ _. ret_r (f e))) (byte_not doc e 10 (peek doc e) (omega arith) refl h)

-- A TEXT LINE where no space stands: a text and the end
piece_solid : (at : ℕ) (s : List ℕ) → many_r (is (only 32)) (byte_r (is (only 32))) at s ≡ ok [] at s → piece_r at s ≡ bind (char_r dark at s) (λ c. ret_r c)
piece_solid at s e = rw e refl

solid_line : (i at : ℕ) (s : List ℕ) → many_r (is (only 32)) (byte_r (is (only 32))) at s ≡ ok [] at s → text_line_r i at s ≡ bind (solid_r at s) (λ v. line_end_r (line i v))
unfolding text_line_r
solid_line i at s e = rw e (by (char_r dark at s) ((char_ll dark).firm at s))
  where
    f : ℕ → Bool
    f = is piece_s.first

    more : (d : List ℕ) (o : Out (List (List ℕ))) → Firm o
        → bind o (λ ps. line_end_r (line i (d ++ cat ps))) ≡ bind (bind (bind o (λ vs. ret_r (d ∷ vs))) (λ ps. ret_r (cat ps))) (λ v. line_end_r (line i v))
    more d _ f_ok = refl
    more d _ f_bad = refl

    by : (o : Out (List ℕ)) → Firm o
        → bind o (λ d. seq_r (many_r f piece_r) λ ps. line_end_r (line i (d ++ cat ps)))
        ≡ bind (bind (bind (bind o (λ c. ret_r c)) (λ v. seq_r (many_r f piece_r) λ vs. ret_r (v ∷ vs))) (λ ps. ret_r (cat ps))) (λ v. line_end_r (line i v))
    by _ (f_ok {v = d} {a = a} {t = t}) = more d (many_r f piece_r a t) ((star_ll refl refl piece_ll).firm a t)
    by _ f_bad = refl

unspaced : (doc : List ℕ) (s : ℕ) → (peek doc s ≡ 32 → ⊥) → many_r (is (only 32)) (byte_r (is (only 32))) s (drop s doc) ≡ ok [] s (drop s doc)
unspaced doc s n = by (there doc s)
  where
    by : There doc s → many_r (is (only 32)) (byte_r (is (only 32))) s (drop s doc) ≡ ok [] s (drop s doc)
    by (byte_there h) = rw (h, only_no 32 (peek doc s) n) refl
    by (none_there h k) = rw h refl

module _ (doc : List ℕ) (i s : ℕ) (n : peek doc s ≡ 32 → ⊥) where
  text_solid : text_line_r i s (drop s doc) ≡ bind (solid_r s (drop s doc)) (λ v. line_end_r (line i v))
  text_solid = solid_line i s (drop s doc) (unspaced doc s n)

  text_reads : (e : ℕ) → Texted doc s e → text_line_r i s (drop s doc) ≡ ok (line i (slice s e doc) e) (e + 1) (drop (e + 1) doc)
  text_reads e t = text_solid ∙ (ap (λ o. bind o (λ v. line_end_r (line i v))) t.is ∙ line_closed (line i (slice s e doc)) doc e t.feed)

  text_fails : (p : ℕ) → Untexted doc s p → text_line_r i s (drop s doc) ≡ bad p
  text_fails p (no_text h) = text_solid ∙ ap (λ o. bind o (λ v. line_end_r (line i v))) h
  text_fails p (no_feed v h k) = text_solid ∙ (ap (λ o. bind o (λ v. line_end_r (line i v))) h ∙ line_open (line i v) doc p k)

-- THE LOOK
goes_deep : (c : ℕ) (s : List ℕ) → deeper c s ≡ true → goes_on c s ≡ true
goes_deep c [] e = absurd (ind_none (is (only 32)) c e)
goes_deep c (b ∷ s) e = or_right (is (only 10) b) e

module _ (doc : List ℕ) (col a : ℕ) where
  pub sees_blank : (n : ℕ) → n ≡ a + 1 → peek doc a ≡ 10 → a < length doc → SeenBlank doc col a n
  unfolding body_line_r
  sees_blank n z h l =
      let d : drop a doc ≡ 10 ∷ drop (suc a) doc = peek_cons doc a 10 (sym h) (omega arith) in
      record {
        next = z;
        look = rw d refl;
        is = alt_is doc a 10 (peek doc a) (omega arith) refl blank_r (deeper_r col text_line_r) h ∙ ap (λ o. bind o (λ _. ret_r blank)) (byte_is doc a 10 (peek doc a) (omega arith) refl h);
        blank = record { inside = l; feed = h };
      }

  module _ (dark : peek doc a ≡ 10 → ⊥) (s : ℕ) (sp : Spaced doc a s) where
    line_is : body_line_r col a (drop a doc) ≡ deeper_r col text_line_r a (drop a doc)
    unfolding body_line_r
    line_is = alt_not doc a 10 (peek doc a) (omega arith) refl blank_r (deeper_r col text_line_r) dark

    pub sees_none : s ≤ a + col → SeenNone doc col a s
    sees_none l = record { look = by (there doc a); reach = shallow_far doc a s sp.is col l }
      where
        no : deeper col (drop a doc) ≡ false
        no = shallow doc a s sp.is col l

        by : There doc a → goes_on col (drop a doc) ≡ false
        by (byte_there h) = rw h (rw (only_no 10 (peek doc a) dark) (subst (λ u. deeper col u ≡ false) h no))
        by (none_there h k) = rw h refl

    module _ (l : a + col < s) where
      there_is : body_line_r col a (drop a doc) ≡ text_line_r (s - (a + suc col)) s (drop s doc)
      there_is = line_is ∙ deep_reads doc a s sp.is text_line_r col l

      sees : goes_on col (drop a doc) ≡ true
      sees = goes_deep col (drop a doc) (deep doc a s sp.is col l)

      pub sees_text : (e : ℕ) → Texted doc s e → SeenText doc col a s e
      sees_text e t =
          record {
            look = sees;
            is = there_is ∙ text_reads doc (s - (a + suc col)) s (no_space doc a s sp.is) e t;
            text =
                record {
                  deep = l;
                  ahead = t.ahead;
                  inside = t.inside;
                  spaced = space_in doc a s sp.is;
                  dry = t.dry;
                  feed = t.feed;
                };
          }

      pub sees_bad : (p : ℕ) → Untexted doc s p → SeenBad doc col a p
      sees_bad p u =
          record { look = sees; is = there_is ∙ text_fails doc (s - (a + suc col)) s (no_space doc a s sp.is) p u; inside = let k = sp.inside in omega arith }

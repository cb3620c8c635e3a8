-- What is taken of a source, and how it is cut.
use Rattle.std.proofs.Common.{◌≡◌, ◌<◌, ◌≤◌, ◌+◌, ◌-◌, ℕ, min, false, List, [], ◌∷◌, ◌++◌, length, take, drop, Option, Some, None, refl, sym, ap, subst, ◌∙◌, append_assoc, arith, length-append}
use Rattle.std.proofs.lemmas.List.{append-nil, take_all}
use Rattle.std.proofs.Math.Seq.{take-append_seam}
use Rattle.tab_spec.specs.Frame.{StreamItem, Frames, cancel, command, commands, commands_of, frames, meets_bad_size, with_item}
use Rattle.tab_laws.proofs.Cuts.{frame_before, left_few, left_nothing}
use Rattle.tab_frame.specs.Framing.{GaveItem}
use Rattle.link_port.specs.Port.{Pulled}
use Rattle.history_spec.specs.Cancels.{cancels, cancels_after}
use Rattle.connection_core.specs.Rounds.{IsAtEnd, IsTakenFrom}

-- ---- what is taken

pub taken_none : (given : Option (List ℕ)) → IsTakenFrom given given []
taken_none given all is = (all, is, refl)

pub taken_more : (given left left_new : Option (List ℕ)) (taken piece : List ℕ) → IsTakenFrom given left taken → IsTakenFrom left left_new piece → IsTakenFrom given left_new (taken ++ piece)
taken_more given left left_new taken piece first second all is =
    let one = first all is in
    let two = second one.0 one.1 in
    (two.0, two.1, one.2 ∙ ap (λ (l : List ℕ). taken ++ l) two.2 ∙ sym (append_assoc taken piece two.0))

pub taken_same : (given left left_new : Option (List ℕ)) (taken : List ℕ) → left_new ≡ left → IsTakenFrom given left taken → IsTakenFrom given left_new taken
taken_same given left left_new taken same is = subst (λ (l : Option (List ℕ)). IsTakenFrom given l taken) (sym same) is

some_same : (a b : List ℕ) → Some a ≡ Some b → a ≡ b
some_same a b e = cc

pub pulled_taken : (left left_new : Option (List ℕ)) (room : ℕ) (piece : List ℕ) → Pulled left left_new room piece → IsTakenFrom left left_new piece
pulled_taken None left_new room piece pulled all is = absurd cc
pulled_taken (Some bytes) left_new room piece pulled all is = (pulled.rest, pulled.left, some_same all bytes (sym is) ∙ pulled.next)

-- all that was given is taken, once nothing is left
pub taken_all : (given left left_new : Option (List ℕ)) (taken : List ℕ) → IsTakenFrom given left taken → IsAtEnd left left_new
    → IsTakenFrom given left_new taken × ((all : List ℕ) → given ≡ Some all → taken ≡ all)
taken_all given left left_new taken took end = (
  (λ all is.
      let one = took all is in
      let none = end one.0 one.1 in
      ([], none.1, one.2 ∙ ap (λ (l : List ℕ). taken ++ l) none.0)),
  (λ all is.
      let one = took all is in
      sym (one.2 ∙ ap (λ (l : List ℕ). taken ++ l) (end one.0 one.1).0 ∙ append-nil taken)),
)

-- a framer that gives out no frame takes a whole block
pub fed_all : (kept kept_new piece : List ℕ) (k : ℕ) → (frames kept).items ≡ [] → meets_bad_size kept ≡ false → length piece ≤ 4096 → k ≡ min (length piece) (8192 - length kept)
    → kept_new ≡ kept ++ take k piece → kept_new ≡ kept ++ piece
fed_all kept kept_new piece k none good small is fed =
    let few : length kept < 4096 = omega (arith, left_few kept good, ap length (left_nothing kept none)) in
    let all : length piece ≤ k = omega arith in
    fed ∙ ap (λ (l : List ℕ). kept ++ l) (take_all k piece all)

-- ---- how it is cut

-- these commands were cut from what was taken, the word was raised to these numbers, and these bytes are kept: however the stream
-- goes on
pub record IsCut (taken : List ℕ) (list : List (List ℕ)) (raised kept_bytes : List ℕ) : Type 0 where
  pub commands_are : (more : List ℕ) → commands (taken ++ more) ≡ list ++ commands (kept_bytes ++ more)
  pub ending_is : (more : List ℕ) → (frames (taken ++ more)).ending ≡ (frames (kept_bytes ++ more)).ending
  pub cancels_are : (more : List ℕ) → cancels (taken ++ more) ≡ raised ++ cancels_after (length list) (frames (kept_bytes ++ more)).items

pub cut_none : IsCut [] [] [] []
cut_none = record { commands_are = λ more. refl; ending_is = λ more. refl; cancels_are = λ more. refl }

pub cut_fed : (taken : List ℕ) (list : List (List ℕ)) (raised kept kept_new piece : List ℕ) → IsCut taken list raised kept → kept_new ≡ kept ++ piece → IsCut (taken ++ piece) list raised kept_new
cut_fed taken list raised kept kept_new piece cut is = subst (IsCut (taken ++ piece) list raised) (sym is) (record {
  commands_are = λ more. ap commands (append_assoc taken piece more) ∙ cut.commands_are (piece ++ more)
      ∙ ap (λ (l : List ℕ). list ++ commands l) (sym (append_assoc kept piece more));
  ending_is = λ more. ap (λ (l : List ℕ). (frames l).ending) (append_assoc taken piece more) ∙ cut.ending_is (piece ++ more)
      ∙ ap (λ (l : List ℕ). (frames l).ending) (sym (append_assoc kept piece more));
  cancels_are = λ more. ap cancels (append_assoc taken piece more) ∙ cut.cancels_are (piece ++ more)
      ∙ ap (λ (l : List ℕ). raised ++ cancels_after (length list) (frames l).items) (sym (append_assoc kept piece more));
})

-- how the bytes behind a frame are cut
behind : (item : StreamItem) (kept kept_new out more : List ℕ) → GaveItem item kept kept_new out → frames (kept ++ more) ≡ with_item item (frames (kept_new ++ more))
behind item kept kept_new out more gave =
    ap frames (ap (λ (l : List ℕ). l ++ more) gave.parts ∙ append_assoc out kept_new more)
    ∙ frame_before out (kept_new ++ more) gave.frame
    ∙ ap (λ (i : StreamItem). with_item i (frames (kept_new ++ more))) gave.is_item

-- one command more
pub one_longer : (list : List (List ℕ)) (out : List ℕ) → length (list ++ out ∷ []) ≡ length list + 1
one_longer list out = omega (arith, length-append list (out ∷ []))

pub cut_command : (taken : List ℕ) (list : List (List ℕ)) (raised kept kept_new out : List ℕ) → IsCut taken list raised kept → GaveItem (command out) kept kept_new out → IsCut taken (list ++ out ∷ []) raised kept_new
cut_command taken list raised kept kept_new out cut gave = record {
  commands_are = λ more. cut.commands_are more
      ∙ ap (λ (f : Frames). list ++ commands_of f.items) (behind (command out) kept kept_new out more gave)
      ∙ sym (append_assoc list (out ∷ []) (commands (kept_new ++ more)));
  ending_is = λ more. cut.ending_is more ∙ ap (λ (f : Frames). f.ending) (behind (command out) kept kept_new out more gave);
  cancels_are = λ more. cut.cancels_are more
      ∙ ap (λ (f : Frames). raised ++ cancels_after (length list) f.items) (behind (command out) kept kept_new out more gave)
      ∙ ap (λ (n : ℕ). raised ++ cancels_after n (frames (kept_new ++ more)).items) (sym (one_longer list out));
}

pub cut_cancel : (taken : List ℕ) (list : List (List ℕ)) (raised kept kept_new out : List ℕ) → IsCut taken list raised kept → GaveItem cancel kept kept_new out → IsCut taken list (raised ++ length list ∷ []) kept_new
cut_cancel taken list raised kept kept_new out cut gave = record {
  commands_are = λ more. cut.commands_are more ∙ ap (λ (f : Frames). list ++ commands_of f.items) (behind cancel kept kept_new out more gave);
  ending_is = λ more. cut.ending_is more ∙ ap (λ (f : Frames). f.ending) (behind cancel kept kept_new out more gave);
  cancels_are = λ more. cut.cancels_are more
      ∙ ap (λ (f : Frames). raised ++ cancels_after (length list) f.items) (behind cancel kept kept_new out more gave)
      ∙ sym (append_assoc raised (length list ∷ []) (cancels_after (length list) (frames (kept_new ++ more)).items));
}

-- ---- what was cut in all

pub same_ending : (taken : List ℕ) (list : List (List ℕ)) (raised kept : List ℕ) → IsCut taken list raised kept → (frames taken).ending ≡ (frames kept).ending
same_ending taken list raised kept cut =
    ap (λ (l : List ℕ). (frames l).ending) (sym (append-nil taken)) ∙ cut.ending_is [] ∙ ap (λ (l : List ℕ). (frames l).ending) (append-nil kept)

-- no more commands were taken than these
pub cut_all : (taken : List ℕ) (list : List (List ℕ)) (raised kept : List ℕ) → IsCut taken list raised kept → (frames kept).items ≡ [] → commands taken ≡ list
cut_all taken list raised kept cut none =
    ap commands (sym (append-nil taken)) ∙ cut.commands_are [] ∙ ap (λ (l : List ℕ). list ++ commands l) (append-nil kept)
    ∙ ap (λ (items : List StreamItem). list ++ commands_of items) none ∙ append-nil list

-- and no more cancels
pub raised_all : (taken : List ℕ) (list : List (List ℕ)) (raised kept : List ℕ) → IsCut taken list raised kept → (frames kept).items ≡ [] → cancels taken ≡ raised
raised_all taken list raised kept cut none =
    ap cancels (sym (append-nil taken)) ∙ cut.cancels_are [] ∙ ap (λ (l : List ℕ). raised ++ cancels_after (length list) (frames l).items) (append-nil kept)
    ∙ ap (λ (items : List StreamItem). raised ++ cancels_after (length list) items) none ∙ append-nil raised

-- ---- a block

-- what was pulled stands at the front of the block
pub pulled_front : (count len : ℕ) (into items block : List ℕ) → block ≡ take len (into ++ drop (length into) items) → length into ≡ len → take count block ≡ take count into
pulled_front count len into items block is same =
    ap (take count) (is ∙ ap (λ (n : ℕ). take n (into ++ drop (length into) items)) (sym same) ∙ take-append_seam into (drop (length into) items))

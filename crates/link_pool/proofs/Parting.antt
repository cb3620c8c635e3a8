-- What a server knows after it accepted, served or was joined with another.
use Rattle.std.proofs.Common.{◌≡◌, ◌<◌, ◌+◌, ◌-◌, ℕ, Bool, true, false, List, [], ◌∷◌, ◌++◌, Option, Some, None, refl, sym, ap, subst, ◌∙◌, append-nil, arith}
use Rattle.std.specs.Prelude.{IfNone, IfSome, map, ◌||◌}
use Rattle.std.specs.List.{list_any}
use Rattle.std.specs.Option.{option_to_list}
use Rattle.std.proofs.lemmas.List.{map-append}
use Rattle.std.proofs.lemmas.List.Folds.{list_any-append}
use Rattle.atomic_table.specs.Seated.{TableId}
use Rattle.history_spec.specs.Entry.{Entry}
use Rattle.broker_lock.specs.Known.{Fixed, IsLegalOver, Origin}
use Rattle.broker_lock.specs.Pass.{Joins, PassView}
use Rattle.cancel_words.specs.View.{WordView}
use Rattle.connection_core.specs.declared.ends.Ending.{Ending}
use Rattle.connection_core.specs.Turns.{GoesOn}
use Rattle.accept_loop.specs.Connections.{ConnectionEnds, ends_of}
use Rattle.accept_loop.specs.Passes.{Comes}
use Rattle.link_pool.specs.Hands.{HandView, HasNoTurn, both_of, first_view, handed_on, kept_back, with_more, without_turn}
use Rattle.link_pool.specs.declared.done.Service.{Service}
use Rattle.link_pool.specs.Servers.{HasParts, IsServer, one_part}
use Rattle.link_pool.specs.Services.{IsServed, client_of, given_of, is_lacking}
use Rattle.link_pool.proofs.Together.{knows_both, knows_nobody, knows_one, knows_still}

module _ {S K : Type 0} (legal : Origin → List Entry → Type 0) (left : S → Option (List ℕ)) (written : K → Option (List ℕ)) (source_faults : S → ℕ) (sink_faults : K → ℕ) where
  abbrev Link : Type 0
  Link = S × K

  abbrev Done : Type 0
  Done = Service S K

  abbrev before : Done → ConnectionEnds
  before s = ends_of left written source_faults sink_faults s.given.value.0 s.given.value.1

  abbrev after : Done → ConnectionEnds
  after s = ends_of left written source_faults sink_faults s.link.source s.link.sink

  abbrev done_of : Done → ℕ
  done_of s = s.link.done

  abbrev ending_of : Done → Ending
  ending_of s = s.link.ending

  abbrev word_of : Done → Option WordView
  word_of s = s.link.word

  abbrev Is : HandView Link → PassView → List Done → Bool → List Link → Type 0
  Is = IsServer legal (IsServed left written source_faults sink_faults) given_of client_of
      is_lacking

  -- nobody was served yet
  pub server_begins : (hand : HandView Link) (pass : PassView) → HasNoTurn hand → hand.mine ≡ [] → pass.known ≡ [] → IsLegalOver legal pass.fixed.base pass.front → Is hand pass [] false []
  server_begins hand pass rests none nobody was = record {
    rests = rests;
    mine = none;
    known = knows_nobody before after client_of done_of ending_of word_of legal pass nobody was;
    lacked_is = refl;
  }

  -- a hand with all parts that accepted nothing
  abbrev resting : HandView Link
  resting = record { parts = 1024; turns = 0; mine = []; held = [] }

  -- the first server, once it gave the turn
  pub server_first : (first hand_new : HandView Link) (accepted : List Link) (pass : PassView) (lock : TableId) (fixed : Fixed) (history : List Entry) (served : List Done) → first ≡ first_view → accepted ≡ []
      → hand_new ≡ without_turn first accepted → pass ≡ record { lock = lock; fixed = fixed; front = []; known = []; parts = 1024; wrong = false } → history ≡ [] → IsLegalOver legal fixed.base history → served ≡ []
      → Is hand_new pass served false []
  server_first first hand_new accepted pass lock fixed history served first_is nothing given pass_is empty was none =
      let begun : PassView = record { lock = lock; fixed = fixed; front = []; known = []; parts = 1024; wrong = false } in
      let now : hand_new ≡ resting = given ∙ (λ i. without_turn (first_is i) (nothing i)) in
      subst (λ (v : HandView Link). Is v pass served false []) (sym now)
      (subst (λ (p : PassView). Is (resting) p served false []) (sym pass_is)
      (subst (λ (l : List Done). Is (resting) begun l false []) (sym none)
      (server_begins (resting) begun (record { some_part = omega arith; no_turn = refl; none = refl }) refl refl (subst (λ (h : List Entry). IsLegalOver legal fixed.base h) empty was))))

  -- it accepted one more
  pub server_accepts : (hand hand_new : HandView Link) (pass : PassView) (served : List Done) (lacked : Bool) (link : Link) → Is hand pass served lacked [] → hand_new ≡ with_more hand link
      → Is hand_new pass served lacked (link ∷ [])
  server_accepts hand hand_new pass served lacked link s more = subst (λ (v : HandView Link). Is v pass served lacked (link ∷ [])) (sym more) (record {
    rests = record { some_part = s.rests.some_part; no_turn = s.rests.no_turn; none = s.rests.none };
    mine = ap (λ (l : List Link). l ++ link ∷ []) (s.mine ∙ append-nil (map given_of served));
    known = s.known;
    lacked_is = s.lacked_is;
  })

  -- the connection's pass is split from its own
  pub server_splits : (hand : HandView Link) (pass pass_new : PassView) (served : List Done) (lacked : Bool) (waiting : List Link) → Is hand pass served lacked waiting
      → pass_new ≡ record pass { parts = pass.parts - 1 } → Is hand pass_new served lacked waiting
  server_splits hand pass pass_new served lacked waiting s is = subst (λ (p : PassView). Is hand p served lacked waiting) (sym is) (record {
    rests = s.rests;
    mine = s.mine;
    known = knows_still before after client_of done_of ending_of word_of legal pass (pass.parts - 1) served s.known;
    lacked_is = s.lacked_is;
  })

  -- it served what it accepted
  pub server_serves : (hand : HandView Link) (pass own ended pass_new : PassView) (served served_new : List Done) (lacked lacked_new : Bool) (link : Link) (m : Done) → Is hand pass served lacked (link ∷ [])
      → served_new ≡ served ++ m ∷ [] → lacked_new ≡ (lacked || is_lacking m) → own ≡ one_part pass
      → Comes legal own ended (ends_of left written source_faults sink_faults link.0 link.1) (after m) (client_of m) (done_of m) (ending_of m) (word_of m) → Joins pass ended pass_new → given_of m ≡ link
      → Is hand pass_new served_new lacked_new []
  server_serves hand pass own ended pass_new served served_new lacked lacked_new link m s more lacks beside comes joins is =
      let from_part = subst (λ (p : PassView). Comes legal p ended (ends_of left written source_faults sink_faults link.0 link.1) (after m) (client_of m) (done_of m) (ending_of m) (word_of m)) beside comes in
      let begun = subst (λ (l : Link). Comes legal (one_part pass) ended (ends_of left written source_faults sink_faults l.0 l.1) (after m) (client_of m) (done_of m) (ending_of m) (word_of m)) (sym is) from_part in
      subst (λ (l : List Done). Is hand pass_new l lacked_new []) (sym more) (record {
        rests = s.rests;
        mine = s.mine ∙ ap (λ (l : Link). map given_of served ++ l ∷ []) (sym is) ∙ sym (map-append given_of served (m ∷ [])) ∙ sym (append-nil (map given_of (served ++ m ∷ [])));
        known = knows_both before after client_of done_of ending_of word_of legal pass ended pass_new served (m ∷ []) s.known
            (knows_one before after client_of done_of ending_of word_of legal (one_part pass) ended m begun s.known.is_legal)
            begun.goes_on.fixed joins;
        lacked_is = lacks ∙ ap (λ (b : Bool). b || is_lacking m) s.lacked_is ∙ or_last served m;
      })
    where
      or_false : (b : Bool) → (b || false) ≡ b
      or_false true = refl
      or_false false = refl

      or_last : (xs : List Done) (x : Done) → (list_any is_lacking xs || is_lacking x) ≡ list_any is_lacking (xs ++ x ∷ [])
      or_last xs x = ap (λ (b : Bool). list_any is_lacking xs || b) (sym (or_false (is_lacking x))) ∙ sym (list_any-append is_lacking xs (x ∷ []))

  -- what it accepted goes to a new server
  pub server_keeps : (hand hand_new : HandView Link) (pass pass_new : PassView) (served : List Done) (lacked : Bool) (waiting : List Link) → Is hand pass served lacked waiting → served ≡ []
      → 1 < hand.parts → hand_new ≡ kept_back hand → pass_new ≡ record pass { parts = (pass.parts - 1) - 1 } → Is hand_new pass_new served lacked []
  server_keeps hand hand_new pass pass_new served lacked waiting s none parts is fewer =
      subst (λ (v : HandView Link). Is v pass_new served lacked []) (sym is)
      (subst (λ (p : PassView). Is (kept_back hand) p served lacked []) (sym fewer) (record {
        rests = record { some_part = omega (arith, parts); no_turn = s.rests.no_turn; none = s.rests.none };
        mine = ap (λ (l : List Done). map given_of l ++ []) (sym none);
        known = knows_still before after client_of done_of ending_of word_of legal pass ((pass.parts - 1) - 1) served s.known;
        lacked_is = s.lacked_is;
      }))

  pub server_given : (hand hand_new : HandView Link) (pass pass_new : PassView) (served served_new : List Done) (lacked lacked_new : Bool) (waiting : List Link) → Is hand pass served lacked waiting → served ≡ []
      → hand_new ≡ handed_on hand → pass_new ≡ one_part pass → served_new ≡ [] → lacked_new ≡ false → Is hand_new pass_new served_new lacked_new waiting
  server_given hand hand_new pass pass_new served served_new lacked lacked_new waiting s none is own nobody not_lacked =
      subst (λ (v : HandView Link). Is v pass_new served_new lacked_new waiting) (sym is)
      (subst (λ (p : PassView). Is (handed_on hand) p served_new lacked_new waiting) (sym own)
      (subst (λ (l : List Done). Is (handed_on hand) (one_part pass) l lacked_new waiting) (sym nobody) (record {
        rests = record { some_part = omega arith; no_turn = refl; none = refl };
        mine = s.mine ∙ ap (λ (l : List Done). map given_of l ++ waiting) none;
        known = knows_nobody before after client_of done_of ending_of word_of legal (one_part pass) refl s.known.is_legal;
        lacked_is = not_lacked;
      })))

  -- it is joined with another
  pub servers_both : (hand other_hand hand_new : HandView Link) (pass other pass_new : PassView) (served more served_new : List Done) (lacked other_lacked lacked_new : Bool) → Is hand pass served lacked []
      → Is other_hand other more other_lacked [] → other.fixed ≡ pass.fixed → hand_new ≡ both_of hand other_hand → Joins pass other pass_new → served_new ≡ served ++ more
      → lacked_new ≡ (lacked || other_lacked) → Is hand_new pass_new served_new lacked_new []
  servers_both hand other_hand hand_new pass other pass_new served more served_new lacked other_lacked lacked_new s t same is joins both lacks =
      subst (λ (v : HandView Link). Is v pass_new served_new lacked_new []) (sym is)
      (subst (λ (l : List Done). Is (both_of hand other_hand) pass_new l lacked_new []) (sym both) (record {
        rests = record {
          some_part = omega (arith, s.rests.some_part);
          no_turn = omega (arith, s.rests.no_turn, t.rests.no_turn);
          none = ap (λ (l : List Link). l ++ other_hand.held) s.rests.none ∙ t.rests.none;
        };
        mine = ap (λ (l : List Link). l ++ other_hand.mine) (s.mine ∙ append-nil (map given_of served))
            ∙ ap (λ (l : List Link). map given_of served ++ l) (t.mine ∙ append-nil (map given_of more))
            ∙ sym (map-append given_of served more) ∙ sym (append-nil (map given_of (served ++ more)));
        known = knows_both before after client_of done_of ending_of word_of legal pass other pass_new served more s.known t.known same joins;
        lacked_is = lacks ∙ ap (λ (b : Bool). b || other_lacked) s.lacked_is ∙ ap (λ (b : Bool). list_any is_lacking served || b) t.lacked_is ∙ sym (list_any-append is_lacking served more);
      }))

  -- it waited for the turn
  pub server_waits : (hand hand_new : HandView Link) (pass pass_new : PassView) (served : List Done) (lacked : Bool) (found : Option Link) → Is hand pass served lacked [] → pass_new ≡ pass
      → IfSome found (λ link. hand_new ≡ with_more hand link) → IfNone found (hand_new ≡ hand) → Is hand_new pass_new served lacked (option_to_list found)
  server_waits hand hand_new pass pass_new served lacked (Some link) s same more none =
      subst (λ (p : PassView). Is hand_new p served lacked (link ∷ [])) (sym same) (server_accepts hand hand_new pass served lacked link s more)
  server_waits hand hand_new pass pass_new served lacked None s same more none =
      subst (λ (p : PassView). Is hand_new p served lacked []) (sym same) (subst (λ (v : HandView Link). Is v pass served lacked []) (sym none) s)

-- ---- parts

pub leaves_waits : {L : Type 0} (hand hand_new : HandView L) (pass pass_new : PassView) (found : Option L) → pass_new ≡ pass → IfSome found (λ link. hand_new ≡ with_more hand link) → IfNone found (hand_new ≡ hand)
    → HasParts hand hand_new pass pass_new 0
leaves_waits {L} hand hand_new pass pass_new found same more none = record {
  hand_parts = parts_by found more none;
  parts = omega (arith, ap (λ (p : PassView). p.parts) same);
  lock_is = ap (λ (p : PassView). p.lock) same;
  fixed_is = ap (λ (p : PassView). p.fixed) same;
}
  where
    parts_by : (found : Option L) → IfSome found (λ link. hand_new ≡ with_more hand link) → IfNone found (hand_new ≡ hand) → hand_new.parts ≡ hand.parts
    parts_by (Some link) more none = ap (λ (v : HandView L). v.parts) more
    parts_by None more none = ap (λ (v : HandView L). v.parts) none

pub leaves_serves : {L : Type 0} (legal : Origin → List Entry → Type 0) (hand hand_new : HandView L) (pass own ended pass_new : PassView) → hand_new ≡ hand → own ≡ one_part pass → GoesOn legal own ended → Joins pass ended pass_new
    → HasParts hand hand_new pass pass_new 1
leaves_serves {L} legal hand hand_new pass own ended pass_new same beside on joins = record {
  hand_parts = ap (λ (v : HandView L). v.parts) same;
  parts = omega (arith, joins.parts, on.parts, ap (λ (p : PassView). p.parts) beside);
  lock_is = joins.lock;
  fixed_is = joins.fixed;
}

-- a pass that was split off is beside the one that it was split from
pub beside_split : (pass pass_new own : PassView) (parts : ℕ) → pass_new ≡ record pass { parts = parts } → own ≡ one_part pass → own ≡ one_part pass_new
beside_split pass pass_new own parts is given = given ∙ ap one_part (sym is)

pub leaves_next : {L : Type 0} (hand hand_new : HandView L) (pass split pass_new : PassView) → split ≡ record pass { parts = pass.parts - 1 } → 1 < pass.parts → HasParts hand hand_new split pass_new 1 → HasParts hand hand_new pass pass_new 0
leaves_next hand hand_new pass split pass_new is some l = record {
  hand_parts = l.hand_parts;
  parts = omega (arith, l.parts, some, ap (λ (p : PassView). p.parts) is);
  lock_is = l.lock_is ∙ ap (λ (p : PassView). p.lock) is;
  fixed_is = l.fixed_is ∙ ap (λ (p : PassView). p.fixed) is;
}

pub leaves_none : {L : Type 0} (hand : HandView L) (pass : PassView)
    → HasParts hand hand pass pass 0
leaves_none hand pass = record { hand_parts = refl; parts = omega arith; lock_is = refl; fixed_is = refl }

pub leaves_then : {L : Type 0} (hand between hand_new : HandView L) (pass mid pass_new : PassView) (one more : ℕ) → HasParts hand between pass mid one → HasParts between hand_new mid pass_new more → HasParts hand hand_new pass pass_new (one + more)
leaves_then hand between hand_new pass mid pass_new one more a b = record {
  hand_parts = b.hand_parts ∙ a.hand_parts;
  parts = omega (arith, a.parts, b.parts);
  lock_is = b.lock_is ∙ a.lock_is;
  fixed_is = b.fixed_is ∙ a.fixed_is;
}

-- one turn of a loop
pub leaves_turn : {L : Type 0} (first between hand hand_new : HandView L) (pass mid last pass_new : PassView) → HasParts first between pass mid 0 → HasParts between hand mid last 0 → HasParts hand hand_new last pass_new 0 → HasParts first hand_new pass pass_new 0
leaves_turn first between hand hand_new pass mid last pass_new a b c = record {
  hand_parts = c.hand_parts ∙ b.hand_parts ∙ a.hand_parts;
  parts = omega (arith, a.parts, b.parts, c.parts);
  lock_is = c.lock_is ∙ b.lock_is ∙ a.lock_is;
  fixed_is = c.fixed_is ∙ b.fixed_is ∙ a.fixed_is;
}

-- the same server with another for a connection of its own
pub leaves_both : {L : Type 0} (hand accepted rest rest_new first first_new hand_new : HandView L) (pass mid rest_pass rest_end first_pass first_end pass_new : PassView)
    → HasParts hand accepted pass mid 0 → rest.parts + 1 ≡ accepted.parts → rest_pass.parts + 2 ≡ mid.parts → rest_pass.fixed ≡ mid.fixed → rest_pass.lock ≡ mid.lock
    → first.parts ≡ 1 → first_pass.parts ≡ 1 → HasParts rest rest_new rest_pass rest_end 0 → HasParts first first_new first_pass first_end 1
    → hand_new.parts ≡ rest_new.parts + first_new.parts → pass_new.parts ≡ rest_end.parts + first_end.parts → pass_new.fixed ≡ rest_end.fixed → pass_new.lock ≡ rest_end.lock → HasParts hand hand_new pass pass_new 0
leaves_both hand accepted rest rest_new first first_new hand_new pass mid rest_pass rest_end first_pass first_end pass_new a rest_is rest_parts rest_fixed rest_lock first_is first_parts b c hands parts fixed lock = record {
  hand_parts = omega (arith, hands, b.hand_parts, c.hand_parts, first_is, rest_is, a.hand_parts);
  parts = omega (arith, parts, b.parts, c.parts, first_parts, rest_parts, a.parts);
  lock_is = lock ∙ b.lock_is ∙ rest_lock ∙ a.lock_is;
  fixed_is = fixed ∙ b.fixed_is ∙ rest_fixed ∙ a.fixed_is;
}

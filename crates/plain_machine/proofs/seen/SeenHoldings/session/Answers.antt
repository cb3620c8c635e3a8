use Rattle.std.proofs.Common.{arith}
use Rattle.std.specs.Prelude.{option_map}
use Rattle.std.proofs.lemmas.List.{length-map}
use Rattle.plain_machine.specs.Owners.{owned_of, owners_of}
use Rattle.plain_machine.proofs.Listing.{place_listed}
use Rattle.plain_machine.proofs.seen.SeenHoldings.session.Goals as goal

pub returns : goal.returns
returns c =
    let seen = c.args.self.now in
    place_listed seen.client c.args.number (owners_of seen.sessions.now) c.listed_session.result
    (omega (arith, length-map seen.sessions.now (option_map owned_of), seen.numbers)) c.listed_session.ensures

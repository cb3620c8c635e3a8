use Rattle.fx_sessions.proofs.response_auth.put_response_auth.Goals as goal

pub returns-in-Some-clause-authorizes : goal.returns-in-Some-clause-authorizes
returns-in-Some-clause-authorizes c = rw c.in-Some.is c.put_session_response_auth.ensures.authorizes

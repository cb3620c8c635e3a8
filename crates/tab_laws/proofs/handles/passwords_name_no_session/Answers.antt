use Rattle.tab_laws.proofs.Passwords.{admitted_passwords, first_password, none_missing, none_repeated}
use Rattle.tab_laws.proofs.handles.passwords_name_no_session.Goals as goal

pub returns-clause-missing : goal.returns-clause-missing
returns-clause-missing c = none_missing

pub returns-clause-repeated : goal.returns-clause-repeated
returns-clause-repeated c = none_repeated

pub returns-clause-only : goal.returns-clause-only
returns-clause-only c = admitted_passwords

pub returns-clause-first : goal.returns-clause-first
returns-clause-first c = first_password

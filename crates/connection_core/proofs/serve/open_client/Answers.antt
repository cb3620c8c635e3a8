use Rattle.connection_core.proofs.Entering.{memory_had_room, opened_as, opened_ok, refused_answer, refused_full, refused_memory, serves_first}
use Rattle.connection_core.proofs.serve.open_client.Goals as goal

pub returns-in-Opened-Err-Memory-clause-err : goal.returns-in-Opened-Err-Memory-clause-err
returns-in-Opened-Err-Memory-clause-err g c =
    refused_memory c.args.pass.now c.act.new.pass _ _ c.requires.nobody (opened_as c.args.pass.now c.act.new.pass _ _ _ _ _ c.in-Opened-Err-Memory.field-0-is c.in-Opened-Err-Memory.field-0-0-is c.in-Opened-Err-Memory.ensures.acts)

pub returns-in-Opened-Err-JournalFull-clause-err :
    goal.returns-in-Opened-Err-JournalFull-clause-err
returns-in-Opened-Err-JournalFull-clause-err g c =
    refused_full c.args.pass.now c.act.new.pass _ _ _ _ c.requires.nobody (opened_as c.args.pass.now c.act.new.pass _ _ _ _ _ c.in-Opened-Err-JournalFull.field-0-is c.in-Opened-Err-JournalFull.field-0-0-is c.in-Opened-Err-JournalFull.ensures.acts)

pub returns-in-Opened-Err-Answer-clause-err : goal.returns-in-Opened-Err-Answer-clause-err
returns-in-Opened-Err-Answer-clause-err g c =
    refused_answer c.args.pass.now c.act.new.pass _ _ c.requires.nobody (opened_as c.args.pass.now c.act.new.pass _ _ _ _ _ c.in-Opened-Err-Answer.field-0-is c.in-Opened-Err-Answer.field-0-0-is c.in-Opened-Err-Answer.ensures.acts)

pub returns-in-Opened-Ok-clause-ok : goal.returns-in-Opened-Ok-clause-ok
returns-in-Opened-Ok-clause-ok g c =
    serves_first c.args.pass.now c.act.new.pass _ _ c.in-Opened-Ok.client c.requires.nobody (opened_ok c.args.pass.now c.act.new.pass _ _ _ c.in-Opened-Ok.client c.in-Opened-Ok.field-0-is c.in-Opened-Ok.ensures.acts)

pub returns-in-Opened-Err-Memory-clause-memory : goal.returns-in-Opened-Err-Memory-clause-memory
returns-in-Opened-Err-Memory-clause-memory g c is =
    memory_had_room c.args.pass.now c.act.new.pass _ _ (opened_as c.args.pass.now c.act.new.pass _ _ _ _ _ c.in-Opened-Err-Memory.field-0-is c.in-Opened-Err-Memory.field-0-0-is c.in-Opened-Err-Memory.ensures.acts)

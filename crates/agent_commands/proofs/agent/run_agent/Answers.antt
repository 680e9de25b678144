use Rattle.std.proofs.Common.{◌≡◌, ◌∙◌, ap, arith, refl}
use Rattle.command_words.specs.declared.command.Command.TheVariants.{Once, Follow, Adopt, Audit, Committed, Pipe, Demo}
use Rattle.checkpoint_journal.specs.declared.fault.JournalFault.TheVariants as journal
use Rattle.folder_audit.specs.declared.fault.AuditFault.TheVariants as auditing
use Rattle.outside.proofs.Passing.{passes_none, passes_weaker}
use Rattle.poll_core.specs.declared.fault.OpenFault.TheVariants as opening
use Rattle.agent_commands.proofs.AdoptLemmas.{same_adopts}
use Rattle.agent_commands.proofs.AuditLemmas.{agrees_unread}
use Rattle.agent_commands.proofs.DemoLemmas.{wants_memory}
use Rattle.agent_commands.proofs.GrowLemmas.{grows_more, grows_same}
use Rattle.agent_commands.proofs.StandLemmas.{same_stands}
use Rattle.agent_commands.specs.Adopt as adopt
use Rattle.agent_commands.specs.Audit.{not_audited}
use Rattle.agent_commands.specs.Committed.{unread}
use Rattle.agent_commands.specs.DemoEnds.{unplayed}
use Rattle.agent_commands.specs.Follow as follow
use Rattle.agent_commands.specs.Once as once
use Rattle.agent_commands.specs.Pipe.{not_piped}
use Rattle.agent_commands.specs.Status.{status_of}
use Rattle.agent_commands.proofs.agent.run_agent.Goals as goal

-- ---- the words spell a command

pub returns-in-Ok-clause-demo : goal.returns-in-Ok-clause-demo
returns-in-Ok-clause-demo g c = λ rounds is. c.run.ensures.demo rounds (c.words_spell_one_command.ensures _ _ _ c.in-Ok.ensures.command is)

pub returns-in-Ok-clause-no_command : goal.returns-in-Ok-clause-no_command
returns-in-Ok-clause-no_command g c = λ none. absurd (none _ c.in-Ok.ensures.command)

-- ---- they spell none, or memory ran out

pub returns-in-Err-clause-once : goal.returns-in-Err-clause-once
returns-in-Err-clause-once g c = λ is.
    let memory = wants_memory _ c.in-Err.fault Once c.in-Err.ensures.fault is in
    once.not_opened _ (record {
      fault = opening.Memory;
      is = c.refuse.ensures.status ∙ ap status_of memory;
      cause = tt;
      told = rw memory at c.refuse.ensures.told;
      same_tree = refl;
      same_clock = refl;
      untouched = λ _. passes_none c.args.disk.now;
      crash = passes_weaker (passes_none c.args.disk.now) (λ old new same. rw same (grows_same old));
    })

pub returns-in-Err-clause-once_crash : goal.returns-in-Err-clause-once_crash
returns-in-Err-clause-once_crash g c = λ _. passes_weaker (passes_none c.args.disk.now) (λ old new same. rw same (grows_more 0 1 old old (omega arith) (grows_same old)))

pub returns-in-Err-clause-follow : goal.returns-in-Err-clause-follow
returns-in-Err-clause-follow g c = λ is.
    let memory = wants_memory _ c.in-Err.fault Follow c.in-Err.ensures.fault is in
    follow.not_opened (record {
      fault = opening.Memory;
      is = c.refuse.ensures.status ∙ ap status_of memory;
      cause = tt;
      told = rw memory at c.refuse.ensures.told;
      same_tree = refl;
      same_clock = refl;
      untouched = λ _. passes_none c.args.disk.now;
      crash = passes_weaker (passes_none c.args.disk.now) (λ old new same. rw same (grows_same old));
    }) refl

pub returns-in-Err-clause-adopt : goal.returns-in-Err-clause-adopt
returns-in-Err-clause-adopt g c = λ is.
    let memory = wants_memory _ c.in-Err.fault Adopt c.in-Err.ensures.fault is in
    adopt.not_read _ (record { fault = opening.Memory; is = c.refuse.ensures.status ∙ ap status_of memory; cause = tt; told = rw memory at c.refuse.ensures.told; untouched = passes_none c.args.disk.now })

pub returns-in-Err-clause-adopt_crash : goal.returns-in-Err-clause-adopt_crash
returns-in-Err-clause-adopt_crash g c = λ _. same_adopts g.D.Disk.meaning.images c.args.disk.now c.args.disk.now (passes_none c.args.disk.now)

pub returns-in-Err-clause-audit : goal.returns-in-Err-clause-audit
returns-in-Err-clause-audit g c = λ is.
    let memory = wants_memory _ c.in-Err.fault Audit c.in-Err.ensures.fault is in
    not_audited _ (record { fault = auditing.Memory; is = c.refuse.ensures.status ∙ ap status_of memory; refused = λ _. tt; differs = λ file line same. absurd (let never : auditing.Memory ≡ auditing.Differs file line = same in cc); told = rw memory at c.refuse.ensures.told })

pub returns-in-Err-clause-audit_agrees : goal.returns-in-Err-clause-audit_agrees
returns-in-Err-clause-audit_agrees g c = λ is.
    let memory = wants_memory _ c.in-Err.fault Audit c.in-Err.ensures.fault is in
    agrees_unread g.D.Disk.meaning.images c.args.disk.now c.refuse.result (g.T.Tree.meaning.world c.args.tree.now) (c.refuse.ensures.status ∙ ap status_of memory)

pub returns-in-Err-clause-committed : goal.returns-in-Err-clause-committed
returns-in-Err-clause-committed g c = λ is.
    let memory = wants_memory _ c.in-Err.fault Committed c.in-Err.ensures.fault is in
    unread _ (record { fault = journal.Memory; is = c.refuse.ensures.status ∙ ap status_of memory; cause = tt; told = rw memory at c.refuse.ensures.told })

pub returns-in-Err-clause-pipe : goal.returns-in-Err-clause-pipe
returns-in-Err-clause-pipe g c = λ is.
    let memory = wants_memory _ c.in-Err.fault Pipe c.in-Err.ensures.fault is in
    not_piped _ (record { fault = opening.Memory; is = c.refuse.ensures.status ∙ ap status_of memory; cause = tt; told = rw memory at c.refuse.ensures.told; untouched = refl; same_clock = refl })

pub returns-in-Err-clause-demo : goal.returns-in-Err-clause-demo
returns-in-Err-clause-demo g c = λ rounds is.
    let memory = wants_memory _ c.in-Err.fault (Demo rounds) c.in-Err.ensures.fault is in
    rw (c.refuse.ensures.status ∙ ap status_of memory) (unplayed (rw memory at c.refuse.ensures.told))

pub returns-in-Err-clause-standing : goal.returns-in-Err-clause-standing
returns-in-Err-clause-standing g c = same_stands g.D.Disk.meaning.images c.args.disk.now c.args.disk.now (g.T.Tree.meaning.world c.args.tree.now) (λ from image early left. g.met.D.Disk.counts_now c.args.disk.now from image early left) (passes_none c.args.disk.now)

pub returns-in-Err-clause-no_command : goal.returns-in-Err-clause-no_command
returns-in-Err-clause-no_command g c = λ _. record { fault = c.in-Err.fault; cause = c.in-Err.ensures.fault; status_is = c.refuse.ensures.status; told = c.refuse.ensures.told }

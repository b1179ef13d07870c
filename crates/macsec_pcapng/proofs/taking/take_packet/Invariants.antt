use Rattle.macsec_pcapng.proofs.Ahead.{Goes}
use Rattle.macsec_pcapng.proofs.taking.take_packet.Given as goal

-- the content from here on is the content from the start on
abbrev pub invariant-loop-blocks : goal.invariant-loop-blocks
invariant-loop-blocks g l =
    Goes l.initial.blocks l.initial.section (g.R.Read.remaining l.initial.source) l.blocks l.section (g.R.Read.remaining l.source)

abbrev pub decreases-loop-blocks : goal.decreases-loop-blocks
decreases-loop-blocks g l = l.blocks

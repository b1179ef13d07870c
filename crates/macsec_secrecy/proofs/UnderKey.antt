-- What was sealed under a key's bytes is all of it.
use Rattle.{
  macsec_hash_keys.proofs.UnderKey.under_has_all,
  macsec_link.specs.Trace.trace_of,
  macsec_secrecy.specs.Under.SealedUnderHasAll,
}

pub sealed_under_has_all : SealedUnderHasAll
sealed_under_has_all key a b events u = under_has_all key (trace_of a b events).seals u

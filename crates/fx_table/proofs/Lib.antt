mod ResponseAuths
mod Ends
mod Keeping
mod ResponseLemmas
mod PlainRows

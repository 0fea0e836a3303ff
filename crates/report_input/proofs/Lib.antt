mod InputLemmas
mod EndLemmas

mod TurnLemmas
mod LineLemmas
mod FirstLemmas
mod CommandLemmas
mod PushLemmas
mod FetchLemmas
mod ShortLemmas
mod ExampleLemmas

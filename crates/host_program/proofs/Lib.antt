mod HostLemmas

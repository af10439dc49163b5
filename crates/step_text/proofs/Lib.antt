mod MayBeAsked
